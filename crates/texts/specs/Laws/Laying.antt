-- The file of a text that is ready, laid down part by part: each part stands behind the ones before it, and there is
-- room for the rest (`put_heads` to `put_nodes`, `room-..`); together they are the file (`put-file`).
use Rattle.std.specs.Prelude.{◌≡◌, refl, false, ◌||◌, List, ◌++◌, map, ℕ, ◌+◌, ◌≤◌, length, take, drop, Result}
use Rattle.std.proofs.Common.{sym, ap, ◌∙◌, arith, length-append}
use borrow.Author.Tests.{ltb-false}
use Rattle.std.proofs.Math.Dec.{ltb}
use Rattle.std.proofs.lemmas.List.Edits.{sets}
use Rattle.std.proofs.Math.Seq.{take-append_seam}
use Rattle.layout.specs.Record.{slave_bytes, trailer_bytes}
use Rattle.layout.specs.Record.Laws.{length-slave, length-trailer}
use Rattle.layout.specs.declared.body.Shape.{Shape}
use Rattle.layout.specs.Put.{Room, Put}
use Rattle.layout.specs.Put.Laws.{put-append, put-over, put-length, room_first, room_next}
use Rattle.meaning.specs.Numbers.{first_edition, most_charts, most_slaves, most_nodes, most_transitions}
use Rattle.meaning.specs.Meaning.{same}
use Rattle.meaning.specs.File.{shape_of}
use Rattle.meaning.specs.Sums.Laws.{or_left, or_right, or_four}
use Rattle.meaning.specs.Check.{counts?}
use Rattle.laying.specs.Trailer.{Small, trailer_with}
use Rattle.laying.specs.Sequence.{put_one, put_is}
use Rattle.notation.specs.Syntax.{Chart, depth}
use Rattle.reading.specs.Numbers.{most_depth, named_charts}
use Rattle.reading.specs.Names.{any, not_all?, sequential?, sequentials_of, parts?, names?, name_of}
use Rattle.reading.specs.Meant.{all, charts_of, transitions_of, slaves_of, nodes_of, lay_chart, trailer_for, file_for}
use Rattle.reading.specs.Read.{chart_tests, read_file}
use Rattle.reading.proofs.Laws.Read.{read_spells}
use Rattle.reading.specs.Laws.Body.{heads_for, lines_for, slaves_for, nodes_for, length-all, length_heads, length_lines}
use Rattle.reading.specs.Laws.Body.{length-slaves, length_nodes}
use Rattle.roster.specs.declared.Roster.{Roster}
use Rattle.roster.specs.Records.{HeadsPut, TransitionsPut}
use Rattle.roster.specs.Laws.Front.{heads_laid, transitions_laid}
use Rattle.walk.specs.declared.Cursor.{Cursor}
use Rattle.walk.specs.Order.{PutsAll}
use Rattle.walk.specs.Walk.{TextLaid}
use Rattle.walk.specs.Laws.Text.{slaves_sorted}
use Rattle.outline.specs.Laws.Filed.{slaves-filed, slaves-met}
use Rattle.texts.specs.declared.Refused.{Refused}
use Rattle.texts.specs.Promises.{ReadSays, Delivers, deliver_tests}
use Rattle.texts.specs.Ready.{Ready}
use Rattle.texts.specs.Laws.Tests.{tests_same, chart-file, says-chart}
use Rattle.texts.specs.Laws.Parts.{shape_for, end_for, file-parts}

-- the bytes of a file at the most, of its slaves and of its nodes
abbrev pub most_file : ℕ
most_file = 30408

module _ (w : List ℕ) (s : Roster) (m : Shape) (y : Ready w s m) where
  abbrev t : Chart
  t = y.chart

  whole : read_file w ≡ heads_for t ++ (lines_for t ++ (slaves_for t ++ (nodes_for t ++ end_for t)))
  whole = (read_spells w t 0 y.spells).1.1 ∙ file-parts t

  -- ── the counts are within their limits ──

  record Within : Type 0 where
    charts : length (charts_of t) ≤ most_charts
    slaves : length (slaves_of t) ≤ most_slaves
    nodes : length (nodes_of t) ≤ most_nodes
    transitions : length (transitions_of t) ≤ most_transitions

  limits : Within
  unfolding counts? trailer_for
  limits =
      let e = y.counted in
      let p = or_four (same (length (charts_of t)) 0 || ltb most_charts (length (charts_of t)))
      (ltb most_slaves (length (slaves_of t)))
      (same (length (nodes_of t)) 0 || ltb most_nodes (length (nodes_of t)))
      (ltb most_transitions (length (transitions_of t))) e in
      record {
        charts = ltb-false most_charts _ (or_right (same (length (charts_of t)) 0) _ p.0);
        slaves = ltb-false most_slaves _ p.1;
        nodes = ltb-false most_nodes _ (or_right (same (length (nodes_of t)) 0) _ p.2);
        transitions = ltb-false most_transitions _ p.3;
      }

  pub small : Small m
  unfolding shape_of trailer_for
  small = rw y.shape (let l = limits in
      (omega (arith, l.charts), omega (arith, l.transitions), omega (arith, l.slaves), omega (arith, l.nodes)))

  pub size : length (read_file w) ≤ most_file
  size =
      let l = limits in
      omega (
        arith,
        l.charts,
        l.slaves,
        l.nodes,
        l.transitions,
        ap length whole,
        length_heads t,
        length_lines t,
        length-slaves t,
        length_nodes t,
        length-trailer (trailer_with (shape_for t) first_edition),
        length-append (heads_for t) (lines_for t ++ (slaves_for t ++ (nodes_for t ++ end_for t))),
        length-append (lines_for t) (slaves_for t ++ (nodes_for t ++ end_for t)),
        length-append (slaves_for t) (nodes_for t ++ end_for t),
        length-append (nodes_for t) (end_for t),
      )

  -- the file that is laid down is delivered
  pub ready_says : (b : List ℕ) (r : Result ℕ Refused) (c : List ℕ) → Delivers (read_file w) b r c → ReadSays w b r c
  ready_says b r c h =
      let e = (read_spells w t 0 y.spells).1.1 in
      says-chart w t b r c y.spells
      (tests_same (deliver_tests (file_for t) (length b)) (chart_tests t (length b)) (file_for t) b r c
      (chart-file t (length b) y.shallow y.named y.counted y.sparse) (rw e at h))

  -- ── 52 does not apply ──

  good : s.bad ≡ false
  unfolding names?
  good = y.found.is_bad ∙ or_left (not_all? named_charts (map name_of (sequentials_of t))) _ y.named

  right : s.refused ≡ false
  unfolding names?
  right =
      y.found.is_refused
      ∙ or_left (any sequential? (sequentials_of t)) (parts? t)
      (or_right (not_all? named_charts (map name_of (sequentials_of t)))
      (any sequential? (sequentials_of t) || parts? t) y.named)

  few : s.crowded ≡ false
  few = y.found.is_crowded good ∙ y.sparse

  -- nodes and slaves, each in a buffer of its own
  module _ {nodes slaves nodes' slaves' : List ℕ} {c : Cursor} (h : TextLaid w 0 nodes slaves nodes' slaves' c)
      (en : length nodes ≡ 1280) (es : length slaves ≡ 60)
    where
      room_met : Room slaves 0 (all slave_bytes (lay_chart t 0).slaves)
      room_met =
          let l = limits in
          omega (
            arith,
            l.slaves,
            es,
            slaves-filed t y.named,
            slaves-met t y.named,
            length-all 4 slave_bytes length-slave (lay_chart t 0).slaves,
          )

      room_tree : Room nodes 0 (nodes_for t)
      room_tree = let l = limits in omega (arith, l.nodes, en, length_nodes t)

      both : Put nodes 0 (nodes_for t) nodes' c.at
          × Put slaves 0 (all slave_bytes (lay_chart t 0).slaves) slaves' c.slaves
      both =
          h.gives t y.spells (ltb-false most_depth (depth t) y.shallow) y.named
          limits.nodes room_tree room_met

      pub tree_within : c.at ≤ length nodes'
      tree_within = omega (arith, both.0.place, put-length both.0, room_tree)

      pub tree_is : take c.at nodes' ≡ nodes_for t
      tree_is =
          let o = put-over both.0 (omega (arith, room_tree)) in
          let rest = drop (length (nodes_for t)) nodes in
          ap (take c.at) o.1 ∙ ap (λ k. take k (nodes_for t ++ rest)) o.0 ∙ take-append_seam (nodes_for t) rest

      -- ── the parts in turn ──

      module _ (f : List ℕ) (big : most_file ≤ length f) where
        room_all : Room f 0 (heads_for t ++ (lines_for t ++ (slaves_for t ++ (nodes_for t ++ end_for t))))
        room_all = omega (arith, size, ap length whole)

        module _ {f₁ : List ℕ} {p₁ : ℕ} (h₁ : HeadsPut w s f 0 f₁ p₁) where
          put_heads : Put f 0 (heads_for t) f₁ p₁
          put_heads = heads_laid w s t y.found good right few h₁ (room_first f 0 (heads_for t) _ room_all)

          room_lines : Room f₁ p₁ (lines_for t ++ (slaves_for t ++ (nodes_for t ++ end_for t)))
          room_lines = room_next f 0 (heads_for t) _ room_all put_heads

          module _ {f₂ : List ℕ} {p₂ : ℕ} (h₂ : TransitionsPut w s f₁ p₁ f₂ p₂) where
            put_lines : Put f₁ p₁ (lines_for t) f₂ p₂
            put_lines = transitions_laid w s t y.found good right h₂ (room_first f₁ p₁ (lines_for t) _ room_lines)

            room_slaves : Room f₂ p₂ (slaves_for t ++ (nodes_for t ++ end_for t))
            room_slaves = room_next f₁ p₁ (lines_for t) _ room_lines put_lines

            module _ {f₃ : List ℕ} {p₃ : ℕ} (h₃ : PutsAll slaves' c.slaves f₂ p₂ f₃ p₃) where
              put-slaves : Put f₂ p₂ (slaves_for t) f₃ p₃
              put-slaves =
                  slaves_sorted t slaves slaves' c.slaves room_met both.1 f₂ f₃ p₂ p₃ h₃
                  (room_first f₂ p₂ (slaves_for t) _ room_slaves)

              room_nodes : Room f₃ p₃ (nodes_for t ++ end_for t)
              room_nodes = room_next f₂ p₂ (slaves_for t) _ room_slaves put-slaves

              pub room_tree_there : p₃ + length (take c.at nodes') ≤ length f₃
              room_tree_there = rw tree_is (room_first f₃ p₃ (nodes_for t) (end_for t) room_nodes)

              module _ {f₄ : List ℕ} {p₄ : ℕ} (h₄ : Put f₃ p₃ (take c.at nodes') f₄ p₄) where
                put_nodes : Put f₃ p₃ (nodes_for t) f₄ p₄
                put_nodes = put_is tree_is h₄

                pub room_end : p₄ + 12 ≤ length f₄
                room_end =
                    let r = room_next f₃ p₃ (nodes_for t) (end_for t) room_nodes put_nodes in
                    omega (arith, r, length-trailer (trailer_with (shape_for t) first_edition))

                pub put-file : (f₅ : List ℕ) → f₅ ≡ sets f₄ p₄ (trailer_bytes (trailer_with m first_edition))
                    → Put f 0 (read_file w) f₅ (p₄ + 12)
                put-file f₅ e =
                    put_is (sym whole)
                    (put-append put_heads (put-append put_lines (put-append put-slaves (put-append put_nodes
                    (put_one (end_for t) 12 p₄ f₄ f₅ (length-trailer (trailer_with (shape_for t) first_edition))
                    (e ∙ ap (λ k. sets f₄ p₄ (trailer_bytes (trailer_with k first_edition))) y.shape))))))

                pub end-small : p₄ + 12 ≤ most_file
                end-small = omega (arith, size, (put-file _ refl).place)
