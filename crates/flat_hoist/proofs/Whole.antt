-- Code with a field in a slot stands for the code that it was.
use Rattle.std.proofs.Common.{◌≡◌, ℕ, ◌+◌, ◌<◌, ◌≤◌, Bool, true, false, if◌then◌else◌, ◌++◌, refl, sym, ap, ap₂, ◌∙◌, subst, arith}
use Rattle.iter_unroll.specs.declared.tree.Flat.{Flat}
use Rattle.iter_unroll.specs.Flat.{Fs, Fixed, flat_iteration}
use Rattle.iter_unroll.specs.Flat as f
use Rattle.iter_unroll.specs.Limits.{Reach, InReach, Keeps, init_reach, body_reach, depth, fx_nodes, fs_nodes}
use Rattle.iter_unroll.specs.Tree.{fsts}
use Rattle.iter_unroll.specs.Uses.{fx_uses, fs_uses}
use Rattle.iter_unroll.specs.Span.{HoldsAll, IsSpan}
use Rattle.flat_hoist.specs.declared.field.Field.{Field}
use Rattle.flat_hoist.specs.Hoisted.{StandsFor}
use Rattle.flat_hoist.specs.hoisting.Fields.{read_of}
use Rattle.flat_hoist.specs.hoisting.Swapped.{all_in_slot}
use Rattle.flat_hoist.specs.hoisting.Reads.{all_reads}
use Rattle.flat_hoist.specs.hoisting.Hoists.{CanHoist}
use Rattle.flat_hoist.proofs.Same.{same_iteration}
use Rattle.flat_hoist.proofs.Kept.{all_nodes, still_keeps, both_hold, first_holds, second_holds, still_all, by_either, all_there, all_inside, all_before, one_span}

pub stands_still : (flat : Flat) → StandsFor flat flat
stands_still flat = record { record_size = refl; pad_size = refl; args = refl; init = refl; iterates = λ g r p. refl; keeps = λ h. h; few = λ h. h; holds = λ i h. h; span = λ i h. h }

pub stands_then : (a b c : Flat) → StandsFor a b → StandsFor b c → StandsFor a c
stands_then a b c x y = record {
  record_size = y.record_size ∙ x.record_size;
  pad_size = y.pad_size ∙ x.pad_size;
  args = y.args ∙ x.args;
  init = y.init ∙ x.init;
  iterates = λ g r p. y.iterates g r p ∙ x.iterates g r p;
  keeps = λ h. y.keeps (x.keeps h);
  few = λ h. y.few (x.few h);
  holds = λ i h. y.holds i (x.holds i h);
  span = λ i h. y.span i (x.span i h);
}

read_deep : (h : Field) → (depth (read_of h) ≡ 1) × (fx_nodes (read_of h) ≡ 1)
read_deep h = by h.pad
  where
    by : (p : Bool) → (depth (if p then f.pad_field h.off h.width else f.cur_field h.off h.width) ≡ 1) × (fx_nodes (if p then f.pad_field h.off h.width else f.cur_field h.off h.width) ≡ 1)
    by true = (refl, refl)
    by false = (refl, refl)

keeps_read : (r : Reach) (h : Field) (k : ℕ) (e n : Fs) → k < 8 → 0 < all_reads h e + all_reads h n → Keeps r e → Keeps r n → Keeps r (f.put_slot k (read_of h) (all_in_slot h k e))
keeps_read r h k e n lt some he hn =
    (lt, (by_either (all_reads h e) (all_reads h n) (InReach r (read_of h)) some (λ x. all_there r h e x he) (λ x. all_there r h n x hn), omega (arith, (read_deep h).0)), still_keeps r h k e lt he)

holds_read : (i : ℕ × ℕ) (h : Field) (k : ℕ) (e n : Fs) → 0 < all_reads h e + all_reads h n → HoldsAll i (fs_uses e ++ fs_uses n)
    → HoldsAll i ((fx_uses (read_of h) ++ fs_uses (all_in_slot h k e)) ++ fs_uses (all_in_slot h k n))
holds_read i h k e n some a =
    let first = first_holds i (fs_uses e) (fs_uses n) a in
    let second = second_holds i (fs_uses e) (fs_uses n) a in
    both_hold i (fx_uses (read_of h) ++ fs_uses (all_in_slot h k e)) (fs_uses (all_in_slot h k n))
    (both_hold i (fx_uses (read_of h)) (fs_uses (all_in_slot h k e))
    (by_either (all_reads h e) (all_reads h n) (HoldsAll i (fx_uses (read_of h))) some (λ x. all_inside i h e x first) (λ x. all_inside i h n x second))
    (still_all i h k e first))
    (still_all i h k n second)

-- and back
held_back : (i : ℕ × ℕ) (h : Field) (k : ℕ) (e n : Fs) → HoldsAll i ((fx_uses (read_of h) ++ fs_uses (all_in_slot h k e)) ++ fs_uses (all_in_slot h k n))
    → HoldsAll i (fs_uses e ++ fs_uses n)
held_back i h k e n a =
    let ends = first_holds i (fx_uses (read_of h) ++ fs_uses (all_in_slot h k e)) (fs_uses (all_in_slot h k n)) a in
    let read = first_holds i (fx_uses (read_of h)) (fs_uses (all_in_slot h k e)) ends in
    both_hold i (fs_uses e) (fs_uses n)
    (all_before i h k e read (second_holds i (fx_uses (read_of h)) (fs_uses (all_in_slot h k e)) ends))
    (all_before i h k n read (second_holds i (fx_uses (read_of h) ++ fs_uses (all_in_slot h k e)) (fs_uses (all_in_slot h k n)) a))

reach_is : (a b : Flat) → b.record_size ≡ a.record_size → b.pad_size ≡ a.pad_size → body_reach a ≡ body_reach b
reach_is a b r p = ap₂ (λ x y. record { args = 0; record_size = x; pad_size = y }) (sym r) (sym p)

init_is : (a b : Flat) → b.args ≡ a.args → b.pad_size ≡ a.pad_size → init_reach a ≡ init_reach b
init_is a b r p = ap₂ (λ x y. record { args = x; record_size = 0; pad_size = y }) (sym r) (sym p)

pub one_stands : (a b : Flat) (h : Field) (k : ℕ) → CanHoist a h k
    → b.record_size ≡ a.record_size → b.pad_size ≡ a.pad_size → b.args ≡ a.args → b.init_part ≡ a.init_part
    → fsts b.end_part ≡ f.put_slot k (read_of h) (all_in_slot h k (fsts a.end_part)) → fsts b.next_part ≡ all_in_slot h k (fsts a.next_part) → StandsFor a b
one_stands a b h k can rs ps ar init ends next =
    let e = fsts a.end_part in
    let n = fsts a.next_part in
    record {
      record_size = rs;
      pad_size = ps;
      args = ar;
      init = init;
      iterates = λ g r p. ap₂ (λ x y. flat_iteration g x y r p) ends next ∙ same_iteration g h k e n r p can.slot can.ends can.next;
      keeps = λ m. (
        subst (λ r. Keeps r (fsts b.init_part)) (init_is a b ar ps) (subst (λ l. Keeps (init_reach a) (fsts l)) (sym init) m.0),
        subst (λ r. Keeps r (fsts b.end_part)) (reach_is a b rs ps) (subst (Keeps (body_reach a)) (sym ends) (keeps_read (body_reach a) h k e n can.slot can.read m.1 m.2)),
        subst (λ r. Keeps r (fsts b.next_part)) (reach_is a b rs ps) (subst (Keeps (body_reach a)) (sym next) (still_keeps (body_reach a) h k n can.slot m.2)),
      );
      few = λ m. (
        subst (λ l. fs_nodes (fsts l) ≤ 2000) (sym init) m.0,
        omega (arith, ap fs_nodes ends, ap fs_nodes next, all_nodes h k e, all_nodes h k n, can.room, (read_deep h).1),
      );
      holds = λ i m. subst (HoldsAll i) (sym (ap₂ (λ x y. fs_uses x ++ fs_uses y) ends next)) (holds_read i h k e n can.read m);
      span = λ i m. subst (λ l. IsSpan l i) (sym (ap₂ (λ x y. fs_uses x ++ fs_uses y) ends next))
          (one_span (fs_uses e ++ fs_uses n) ((fx_uses (read_of h) ++ fs_uses (all_in_slot h k e)) ++ fs_uses (all_in_slot h k n)) i (λ j. holds_read j h k e n can.read) (λ j. held_back j h k e n) m);
    }
