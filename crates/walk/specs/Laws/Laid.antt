-- Laws of what is laid down, and of what is written: parts beside each other (`laid-..`, `slaves-..`), room for them
-- (`fits-..`) and that they are written (`adds-..`).
use Rattle.std.specs.Prelude.{◌≡◌, refl, List, [], ◌∷◌, ◌++◌, ℕ, ◌+◌, length}
use Rattle.std.proofs.Common.{sym, ap, ap₂, ◌∙◌, subst, append_assoc, append-nil, add-zero, add_assoc, arith}
use Rattle.std.proofs.Common.{length-append}
use Rattle.layout.specs.Record.{slave_bytes, node_bytes}
use Rattle.layout.specs.declared.record.Node.{Node}
use Rattle.layout.specs.Put.{Room}
use Rattle.layout.specs.Put.Laws.{put-none, put-append, room_first, room_next}
use Rattle.reading.specs.Meant.{all, Laid, last_of, Placed, lay_slaves, with_node, beside}
use Rattle.reading.specs.Laws.Lists.{all_append}
use Rattle.laying.specs.Sequence.{put_is}
use Rattle.walk.specs.Walk.{Sheet, Fits, Adds, one_node, one_slave}

-- ── parts beside each other ──

laid_is : {p q : Laid} → p.nodes ≡ q.nodes → p.slaves ≡ q.slaves → p ≡ q
laid_is {p} {q} e f = ap₂ (λ n s. record { nodes = n; slaves = s }) e f

pub laid_node : (p : Laid) (n : Node) → with_node p n ≡ beside p (one_node n)
unfolding with_node beside
laid_node p n = laid_is refl (sym (append-nil p.slaves))

-- the slave of a part behind it
pub laid-slave : (c : ℕ) (s : Placed) (k : ℕ)
    → lay_slaves c (s ∷ []) k
    ≡ beside (s.part k) (one_slave (record { chart = c; state = s.at; node = last_of k (s.part k) }))
unfolding lay_slaves beside
laid-slave c s k = refl

-- slaves behind slaves
pub slaves-append : (c : ℕ) (a b : List Placed) (k : ℕ)
    → lay_slaves c (a ++ b) k ≡ beside (lay_slaves c a k) (lay_slaves c b (k + length (lay_slaves c a k).nodes))
unfolding lay_slaves beside
slaves-append c [] b k = sym (ap (lay_slaves c b) (add-zero k))
slaves-append c (s ∷ a) b k =
    let p = s.part k in
    let m = k + length p.nodes in
    let x = lay_slaves c a m in
    let e = slaves-append c a b m in
    let z : m + length x.nodes ≡ k + length (p.nodes ++ x.nodes) =
    add_assoc k (length p.nodes) (length x.nodes) ∙ ap (k +◌) (sym (length-append p.nodes x.nodes)) in
    let f = e ∙ ap (λ j. beside x (lay_slaves c b j)) z in
    laid_is
    (ap (λ l. p.nodes ++ l.nodes) f ∙ sym (append_assoc p.nodes x.nodes _))
    (ap (λ l. p.slaves ++ (record { chart = c; state = s.at; node = last_of k p } ∷ l.slaves)) f
    ∙ sym (append_assoc p.slaves (_ ∷ x.slaves) _))

-- ── room ──

pub fits_is : {a : Sheet} {p q : Laid} → p ≡ q → Fits a p → Fits a q
fits_is {a} e f = subst (Fits a) e f

pub adds_is : {a b : Sheet} {p q : Laid} → q ≡ p → Adds a b p → Adds a b q
adds_is {a} {b} e f = subst (Adds a b) (sym e) f

pub fits-first : {a : Sheet} {p : Laid} (q : Laid) → Fits a (beside p q) → Fits a p
unfolding beside
fits-first {a} {p} q f =
    record {
      few = omega (arith, f.few, length-append p.nodes q.nodes);
      nodes =
          room_first a.out a.at (all node_bytes p.nodes) (all node_bytes q.nodes)
          (subst (Room a.out a.at) (all_append node_bytes p.nodes q.nodes) f.nodes);
      slaves =
          room_first a.list a.slaves (all slave_bytes p.slaves) (all slave_bytes q.slaves)
          (subst (Room a.list a.slaves) (all_append slave_bytes p.slaves q.slaves) f.slaves);
    }

pub fits_then : {a b : Sheet} {p q : Laid} → Fits a (beside p q) → Adds a b p → Fits b q
unfolding beside
fits_then {a} {b} {p} {q} f g =
    record {
      few = omega (arith, f.few, length-append p.nodes q.nodes, g.counted);
      nodes =
          room_next a.out a.at (all node_bytes p.nodes) (all node_bytes q.nodes)
          (subst (Room a.out a.at) (all_append node_bytes p.nodes q.nodes) f.nodes) g.nodes;
      slaves =
          room_next a.list a.slaves (all slave_bytes p.slaves) (all slave_bytes q.slaves)
          (subst (Room a.list a.slaves) (all_append slave_bytes p.slaves q.slaves) f.slaves) g.slaves;
    }

-- ── what is written ──

pub adds_then : {a b c : Sheet} {p q : Laid} → Adds a b p → Adds b c q → Adds a c (beside p q)
unfolding beside
adds_then {a} {b} {c} {p} {q} f g =
    record {
      nodes = put_is (sym (all_append node_bytes p.nodes q.nodes)) (put-append f.nodes g.nodes);
      slaves = put_is (sym (all_append slave_bytes p.slaves q.slaves)) (put-append f.slaves g.slaves);
      counted = omega (arith, f.counted, g.counted, length-append p.nodes q.nodes);
    }

pub adds_none : (a : Sheet) → Adds a a (record { nodes = []; slaves = [] })
unfolding all
adds_none a =
    record {
      nodes = put-none a.at a.out;
      slaves = put-none a.slaves a.list;
      counted = sym (add-zero a.node);
    }

-- slaves behind slaves, as a loop writes them: a is written, and b is next
module _ (c : ℕ) (a b : List Placed) {x y : Sheet} (g : Adds x y (lay_slaves c a x.node)) where
  next_is : x.node + length (lay_slaves c a x.node).nodes ≡ y.node
  next_is = sym g.counted

  pub slaves_room : (r : List Placed) → Fits x (lay_slaves c (a ++ (b ++ r)) x.node)
      → Fits y (lay_slaves c b y.node)
  slaves_room r f =
      fits-first _ (fits_is (ap (lay_slaves c (b ++ r)) next_is ∙ slaves-append c b r y.node)
      (fits_then (fits_is (slaves-append c a (b ++ r) x.node) f) g))

  pub slaves_then : {z : Sheet} → Adds y z (lay_slaves c b y.node) → Adds x z (lay_slaves c (a ++ b) x.node)
  slaves_then h =
      adds_is (slaves-append c a b x.node ∙ ap (λ k. beside (lay_slaves c a x.node) (lay_slaves c b k)) next_is)
      (adds_then g h)
