-- The tests of a trailer, in the order of RULES 3.2.
use Rattle.std.specs.Prelude.{◌||◌, List, [], ◌∷◌, ℕ, ltb}
use Rattle.layout.specs.Body.{size_of}
use Rattle.layout.specs.declared.record.Trailer.{Trailer}
use Rattle.meaning.specs.Numbers.{other_edition, bad_counts, bad_distance}
use Rattle.meaning.specs.File.{shape_of}
use Rattle.meaning.specs.Check.{Test, differ, edition?, counts?}

-- 2 to 4, of a trailer that stands at `end`
abbrev pub trailer_tests : Trailer → ℕ → List Test
trailer_tests t end =
    record { number = other_edition; applies = edition? t }
    ∷ record { number = bad_counts; applies = counts? t }
    ∷ record { number = bad_distance; applies = differ t.distance (size_of (shape_of t)) || ltb end t.distance }
    ∷ []
