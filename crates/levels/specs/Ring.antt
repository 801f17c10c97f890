-- The levels that the code keeps: the innermost stand in a ring of 1,024 bytes, each with the place of its bracket.
use Rattle.std.specs.Prelude.{◌≡◌, Bool, true, false, List, [], ◌∷◌, ℕ, suc, ◌+◌, ◌-◌, ◌%◌, ◌≤◌, ◌<◌, length, take}
use Rattle.std.specs.Prelude.{get_or}
use Rattle.scan.specs.Look.{back_to, levels, rev}
use Rattle.scan.specs.Levels.{below, on_first, fresh}
use Rattle.levels.specs.declared.Kept.{Kept}
use Rattle.levels.specs.declared.Back.{Back}
use Rattle.levels.specs.declared.Back.TheVariants.{On, Found}

-- ── one byte back ──

abbrev pub flag : Bool → ℕ
flag true = 1
flag false = 0

-- what the answer to one byte back goes on with
abbrev pub goes : (ℕ → List ℕ) → (ℕ → ℕ → Bool → List ℕ) → Back → List ℕ
goes g f (On n s q) = f n (flag s) q
goes g f (Found a) = g a

abbrev pub depth_of : Back → ℕ
depth_of (On n s q) = n
depth_of (Found a) = 0

-- the answer r is one byte back, whatever is looked for
abbrev pub StepsBack : ℕ → ℕ → Bool → Bool → Back → Type 0
StepsBack b depth second q r =
    ((g : ℕ → List ℕ) (f : ℕ → ℕ → Bool → List ℕ) → back_to b g f depth (flag second) q ≡ goes g f r)
    × (depth_of r ≤ depth + 1)

-- ── the ring ──

-- the place of a level, counted from the innermost
abbrev pub slot_of : ℕ → ℕ → ℕ
slot_of end j = (end + 1023 - j) % 1024

-- the ring has the first `held` of the levels ls, the innermost before `end`; a level further out than all of ls is 0
pub record Ring (ring : List ℕ) (end held : ℕ) (ls : List ℕ) : Type 0 where
  pub long : length ring ≡ 1024
  pub inside : end < 1024
  pub few : held ≤ 1024
  pub some : 0 < length ls
  pub entry : (j : ℕ) → j < held → get_or ring (slot_of end j) 0 ≡ get_or ls j 0

-- ── the places ──

-- the levels around a place of a text
abbrev pub levels_at : List ℕ → ℕ → List ℕ
levels_at text at = levels (rev (take at text) []) 0 0 false

-- the levels ls stand around the place p
abbrev pub Around : List ℕ → ℕ → List ℕ → Type 0
Around text p ls = (p ≤ length text) × (levels_at text p ≡ ls)

-- for each of the first `held` of the levels ls, the place of its bracket: those outside it stand around that place
pub record Places (text places : List ℕ) (end held : ℕ) (ls : List ℕ) : Type 0 where
  pub long : length places ≡ 1024
  pub bracket : (j : ℕ) → j < held → Around text (get_or places (slot_of end j) 0) (below (suc j) ls)

-- the first `held` of the levels ls are kept, and those outside them stand around the place `floor`
pub record Stands (text ring places : List ℕ) (end held floor : ℕ) (ls : List ℕ) : Type 0 where
  pub kept : Ring ring end held ls
  pub placed : Places text places end held ls
  pub rest : Around text floor (below held ls)

abbrev pub StandsIn : List ℕ → List ℕ → List ℕ → Kept → List ℕ → Type 0
StandsIn text ring places k ls = Stands text ring places k.end k.held k.floor ls

-- ── the marks ──

-- the innermost level around the place p is a, and the others stand around the place l
abbrev pub Under : List ℕ → ℕ → ℕ → ℕ → Type 0
Under text p a l = (get_or (levels_at text p) 0 0 ≡ a) × Around text l (below 1 (levels_at text p))

-- t marks: the last has the innermost level around the place `floor`, and each other one that around the first place of
-- the mark behind it
pub record Marks (text firsts lasts tops : List ℕ) (t floor : ℕ) : Type 0 where
  pub few : t ≤ 512
  pub long_firsts : length firsts ≡ 512
  pub long-lasts : length lasts ≡ 512
  pub long_tops : length tops ≡ 512
  pub last : (i : ℕ) → suc i ≡ t → Under text floor (get_or tops i 0) (get_or lasts i 0)
  pub next : (i : ℕ) → suc i < t → Under text (get_or firsts (suc i) 0) (get_or tops i 0) (get_or lasts i 0)

abbrev pub MarksIn : List ℕ → List ℕ → List ℕ → List ℕ → Kept → Type 0
MarksIn text firsts lasts tops k = Marks text firsts lasts tops k.marks k.floor

-- the level x, whose bracket is at p, is marked: it is the innermost around the place f
abbrev pub MarksLevel : ℕ → ℕ → List ℕ → List ℕ → List ℕ → ℕ → List ℕ → List ℕ → List ℕ → ℕ → Type 0
MarksLevel p x firsts lasts tops t firsts' lasts' tops' t' =
    (text : List ℕ) (floor f : ℕ) → levels_at text floor ≡ levels_at text p → Under text f x p
    → Marks text firsts lasts tops t floor → Marks text firsts' lasts' tops' t' f

-- the same place and marks
abbrev pub SameFloor : Kept → Kept → Type 0
SameFloor k r = (r.floor ≡ k.floor) × (r.marks ≡ k.marks)

-- the ring is filled further out
abbrev pub Fills : List ℕ → ℕ → ℕ → ℕ → List ℕ → List ℕ → List ℕ → List ℕ → ℕ → ℕ → Type 0
Fills text from end taken ring places ring' places' held floor =
    (0 < held)
    × ((ls : List ℕ) → Stands text ring places end taken from ls → Stands text ring' places' end held floor ls)

-- there is room for a level more, and the same levels stand
abbrev pub MakesRoom : List ℕ → List ℕ → List ℕ → List ℕ → List ℕ → Kept → List ℕ → List ℕ → List ℕ → Kept → Type 0
MakesRoom ring places firsts lasts tops k firsts' lasts' tops' r =
    (r.end ≡ k.end) × ((r.held < 1024)
    × ((text ls : List ℕ) → StandsIn text ring places k ls
    → StandsIn text ring places r ls × (MarksIn text firsts lasts tops k → MarksIn text firsts' lasts' tops' r)))

-- what was kept becomes what is kept in r: the level a is opened at a place; the innermost is closed; the innermost is
-- changed by g
abbrev pub Opens : ℕ → ℕ → List ℕ → List ℕ → List ℕ → List ℕ → List ℕ → Kept
    → List ℕ → List ℕ → List ℕ → List ℕ → List ℕ → Kept → Type 0
Opens at a ring places firsts lasts tops k ring' places' firsts' lasts' tops' r =
    (r.fresh ≡ true)
    × ((text ls : List ℕ) → Around text at ls → StandsIn text ring places k ls
    → StandsIn text ring' places' r (a ∷ ls)
    × (MarksIn text firsts lasts tops k → MarksIn text firsts' lasts' tops' r))

abbrev pub Shuts : Kept → Kept → Type 0
Shuts k r =
    (r.fresh ≡ false) × (SameFloor k r
    × ((text ring places ls : List ℕ) → StandsIn text ring places k ls → StandsIn text ring places r (below 1 ls)))

abbrev pub Changes : (ℕ → ℕ) → List ℕ → Kept → List ℕ → Kept → Type 0
Changes g ring k ring' r =
    (r.fresh ≡ false) × (SameFloor k r
    × ((text places ls : List ℕ) → StandsIn text ring places k ls → StandsIn text ring' places r (on_first g ls)))

-- what is kept are levels around the end of the bytes v, which stand last first
pub record Keeps (text ring places : List ℕ) (k : Kept) (v : List ℕ) : Type 0 where
  pub stands : StandsIn text ring places k (levels v 0 0 false)
  pub is_fresh : k.fresh ≡ fresh v

abbrev pub KeepsAt : List ℕ → ℕ → List ℕ → List ℕ → Kept → Type 0
KeepsAt text at ring places k = Keeps text ring places k (rev (take at text) [])

-- one byte more that opens no bracket, whatever was read before
abbrev pub NotesInside : ℕ → List ℕ → Kept → List ℕ → Kept → Type 0
NotesInside b ring k ring' r =
    SameFloor k r
    × ((text places v : List ℕ) → Keeps text ring places k v → Keeps text ring' places r (b ∷ v))

-- one byte more at a place, whatever was read before
abbrev pub Notes : ℕ → ℕ → List ℕ → List ℕ → List ℕ → List ℕ → List ℕ → Kept
    → List ℕ → List ℕ → List ℕ → List ℕ → List ℕ → Kept → Type 0
Notes at b ring places firsts lasts tops k ring' places' firsts' lasts' tops' r =
    (text v : List ℕ) → Around text at (levels v 0 0 false) → Keeps text ring places k v
    → MarksIn text firsts lasts tops k
    → Keeps text ring' places' r (b ∷ v) × MarksIn text firsts' lasts' tops' r
