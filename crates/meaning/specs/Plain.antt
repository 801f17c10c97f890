-- Plain files (RULES 8). That no step of one has the mark no is proved in the crate plain.
use Rattle.std.specs.Prelude.{Bool, false, ◌&&◌, ◌||◌, not, cond, List, [], ◌∷◌, ℕ}
use Rattle.signals.specs.Mask.{◌∪◌, ◌∩◌, ◌∖◌}
use Rattle.layout.specs.declared.record.Transition.{Transition}
use Rattle.meaning.specs.Numbers.{first_edition}
use Rattle.meaning.specs.Sums.{any_up_to}
use Rattle.meaning.specs.Meaning.{Set, ∅, same}
use Rattle.meaning.specs.File.{File, trailer, file_of}
use Rattle.meaning.specs.Check.{refusal_of, differ}
use Rattle.meaning.specs.Rewriting.{union_up_to}

-- all signals that are fed back: in the feedback set of a chart or in the x of a composed node (RULES 8.1)
unfoldable pub fed_back : File → Set
fed_back F =
    union_up_to F.charts (λ c. (F.chart c).feedback) ∪ union_up_to F.nodes (λ j. cond (same (F.kind j) 1) (F.x j) ∅)

-- one of the two transitions needs a signal that the other bars and f does not have; f: all that are fed back (RULES
-- 8.2)
unfoldable pub told_apart : Set → Transition → Transition → Bool
told_apart f t u = differ ((t.needed ∩ u.barred ∪ t.barred ∩ u.needed) ∖ f) ∅

-- the two leave the same state and are not told apart (RULES 8.2)
abbrev pub doubtful : Set → Transition → Transition → Bool
doubtful f t u = same t.from u.from && not (told_apart f t u)

-- the same of t and a transition of a list
unfoldable pub doubtful_with : Set → Transition → List Transition → Bool
doubtful_with f t [] = false
doubtful_with f t (u ∷ us) = doubtful f t u || doubtful_with f t us

-- the same of some pair of places of a list (RULES 8.2)
unfoldable pub any_doubtful : Set → List Transition → Bool
any_doubtful f [] = false
any_doubtful f (t ∷ ts) = doubtful_with f t ts || any_doubtful f ts

-- no chart has such a pair (RULES 8.2)
unfoldable pub plain_in : File → Bool
plain_in F = not (any_up_to F.charts (λ c. any_doubtful (fed_back F) (F.chart c).transitions))

-- what `plain` answers: yes for an accepted file of edition 1 that has none (RULES 8.3), no for a refused file (RULES
-- 1.4)
unfoldable pub plain_of : List ℕ → Bool
plain_of f = cond (same (refusal_of f) 0) (same (trailer f).edition first_edition && plain_in (file_of f)) false
