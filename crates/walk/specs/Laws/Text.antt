-- A text as a whole: a chart to which 52 does not apply can be laid down (`drawable`), the walk from the beginning of a
-- text lays it down (`text_laid`), and its slaves stand in order once they are sorted (`slaves_sorted`).
use Rattle.std.specs.Prelude.{◌≡◌, false, ◌||◌, not, List, [], ◌++◌, map, ℕ, ◌<◌, ltb}
use Rattle.std.proofs.Common.{sym, ◌∙◌, subst, append-nil, arith, ltb-true}
use Rattle.std.proofs.lemmas.Bool.{not-false}
use Rattle.layout.specs.Record.{slave_bytes}
use Rattle.layout.specs.Put.{Room, Put}
use Rattle.layout.specs.Put.Laws.{put-over}
use Rattle.meaning.specs.Check.{not_below}
use Rattle.meaning.specs.Sums.Laws.{or_left, or_right}
use Rattle.notation.specs.Syntax.{Sequential, Single, sequential, decomposed, hidden, Chart, single, composed, Slaves}
use Rattle.notation.specs.Syntax.{first_slave, more_slaves}
use Rattle.notation.specs.Grammar.{of_chart, Text}
use Rattle.reading.specs.Numbers.{most_depth, named_charts}
use Rattle.reading.specs.Names.{members_of, any, twice?, left_out?, not_all?, set?, optional?, sequential?}
use Rattle.reading.specs.Names.{sequentials_in}
use Rattle.reading.specs.Names.{sequentials_of, sequentials_of_slaves, single_parts?, parts?, slave_parts?, name_of}
use Rattle.reading.specs.Names.{names?}
use Rattle.reading.specs.Names.{has}
use Rattle.reading.specs.Meant.{all, lay_chart, slaves_of}
use Rattle.forms.specs.Laws.Bytes.{calm-end}
use Rattle.reading.specs.Laws.Lists.{any_append}
use Rattle.outline.specs.Laws.Filed.{unnamed, any-map}
use Rattle.walk.specs.declared.Cursor.{Cursor}
use Rattle.laying.specs.Room.{Tries}
use Rattle.walk.specs.Order.{PutsAll}
use Rattle.walk.specs.Walk.{sheet, DrawableSingle, Drawable, DrawableSlaves, ChartAt, TextLaid}

-- ── 52 ──

inside : (s : Sequential) → unnamed s ≡ false → name_of s < named_charts
inside s e = ltb-true (name_of s) named_charts (not-false (ltb (name_of s) named_charts) e)

-- of two lists, each
both-inside : (a b : List Sequential) → any unnamed (a ++ b) ≡ false → (any unnamed a ≡ false) × (any unnamed b ≡ false)
both-inside a b e =
    let z = sym (any_append unnamed a b) ∙ e in
    (or_left (any unnamed a) (any unnamed b) z, or_right (any unnamed a) (any unnamed b) z)

mutual
  unfolding any sequentials_in single_parts? DrawableSingle

  single_drawable : (s : Single) → any unnamed (sequentials_in s) ≡ false → single_parts? s ≡ false → DrawableSingle s
  single_drawable (sequential s) e p = inside s (or_left _ _ e)
  single_drawable (decomposed s ps) e p =
      (inside s (or_left _ _ e), slaves_drawable (members_of s.heading.states) ps (or_right (unnamed s) _ e) p)
  single_drawable (hidden x t y) e p =
      let q = or_right (optional? x) _ p in
      (or_left (optional? x) _ p, chart_drawable t e (or_left (parts? t) _ q), or_right (parts? t) _ q)

  chart_drawable : (t : Chart) → any unnamed (sequentials_of t) ≡ false → parts? t ≡ false → Drawable t
  chart_drawable (single s) e p = single_drawable s e p
  chart_drawable (composed a x b) e p =
      let z = both-inside (sequentials_of a) (sequentials_of b) e in
      let q = or_right (parts? a) _ p in
      let left = chart_drawable a z.0 (or_left (parts? a) _ p) in
      let right = chart_drawable b z.1 (or_right (set? x) _ q) in
      (left, or_left (set? x) _ q, right)

  slaves_drawable : (states : List ℕ) (ps : Slaves) → any unnamed (sequentials_of_slaves ps) ≡ false
      → slave_parts? states ps ≡ false → DrawableSlaves ps
  slaves_drawable states (first_slave q t) e p = chart_drawable t e (or_right (not (has states q)) _ p)
  slaves_drawable states (more_slaves ps q t) e p =
      let z = both-inside (sequentials_of_slaves ps) (sequentials_of t) e in (
        slaves_drawable states ps z.0 (or_left (slave_parts? states ps) _ p),
        chart_drawable t z.1 (or_right (not (has states q)) _ (or_right (slave_parts? states ps) _ p)),
      )

pub drawable : (t : Chart) → names? t ≡ false → Drawable t
unfolding names? not_all?
drawable t e =
    let ns = map name_of (sequentials_of t) in
    let a = or_left (any (λ n. not_below n named_charts) ns) (twice? ns || left_out? ns)
    (or_left (not_all? named_charts ns) (any sequential? (sequentials_of t) || parts? t) e) in
    chart_drawable t (sym (any-map (λ n. not_below n named_charts) (sequentials_of t)) ∙ a)
    (or_right (any sequential? (sequentials_of t)) (parts? t)
    (or_right (not_all? named_charts ns) (any sequential? (sequentials_of t) || parts? t) e))

-- ── the whole text ──

pub text_laid : (w : List ℕ) (at : ℕ) (o l o' l' : List ℕ) (r : Cursor)
    → ChartAt w most_depth 0 r.place (sheet (record { place = 0; node = 0; at = at; slaves = 0 }) o l) (sheet r o' l')
    → TextLaid w at o l o' l' r
text_laid w at o l o' l' r h =
    record {
      gives =
          λ t e d n few room rooms. let g = (h.gives t [] calm-end d (drawable t n)
          (subst (λ u. Text u w) (sym (append-nil (of_chart t))) e)
          (record { few = omega (arith, few); nodes = room; slaves = rooms })).1 in
          (g.nodes, g.slaves);
    }

-- the slaves, as they were met, are the list that is sorted
pub slaves_sorted : (t : Chart) (l l' : List ℕ) (end : ℕ) → Room l 0 (all slave_bytes (lay_chart t 0).slaves)
    → Put l 0 (all slave_bytes (lay_chart t 0).slaves) l' end → (o o' : List ℕ) (at next : ℕ)
    → PutsAll l' end o at o' next → Tries o at (all slave_bytes (slaves_of t)) o' next
slaves_sorted t l l' end room p o o' at next h =
    let z = put-over p (omega (arith, room)) in h (lay_chart t 0).slaves _ z.1 z.0
