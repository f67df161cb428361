-- Statements without a fault have straight code, which keeps to what is there.
use Rattle.std.proofs.Common.{◌≡◌, ℕ, zero, suc, ◌+◌, ◌-◌, ◌<◌, ◌≤◌, Bool, true, false, List, [], ◌∷◌, ◌++◌, Option, Some, None, refl, sym, subst, ◌∙◌, arith, le_refl}
use Rattle.std.specs.Prelude.{nat_le}
use Rattle.iter_syntax.specs.declared.tree.Place.{Place}
use Rattle.iter_syntax.specs.declared.tree.Word.{Word}
use Rattle.iter_syntax.specs.Tree.{Ex, Sts}
use Rattle.iter_syntax.specs.Tree as t
use Rattle.iter_check.specs.Layout.{text}
use Rattle.iter_check.specs.declared.sort.Sort.{Sort}
use Rattle.iter_check.specs.declared.sort.Sort.TheVariants as s
use Rattle.iter_check.specs.declared.kind.CheckKind.TheVariants as k
use Rattle.iter_check.specs.declared.kind.Fault.{Fault}
use Rattle.iter_check.specs.declared.scope.Binding.{Binding}
use Rattle.iter_check.specs.declared.loops.Loop.{Loop}
use Rattle.iter_check.specs.Faults.{fault}
use Rattle.iter_check.specs.Scope.{Scope, Ground, bound, bind}
use Rattle.iter_check.specs.Typing.{is_bool, sort_of}
use Rattle.iter_check.specs.Expressions.{place_of, expr_faults}
use Rattle.iter_check.specs.Scoping.{again, lets, let_sort, is_let, target_sort, whole, wanted, store, turns_faults, scoping}
use Rattle.iter_check.specs.Indices.{index_fault, expr_indices, loop_of, indices}
use Rattle.iter_unroll.specs.declared.scope.Meant.{Meant}
use Rattle.iter_unroll.specs.declared.scope.Meant.TheVariants as m
use Rattle.iter_unroll.specs.Flat.{Fx, Fs}
use Rattle.iter_unroll.specs.Flat as f
use Rattle.iter_unroll.specs.Limits.{Reach, Whole, Keeps}
use Rattle.iter_unroll.specs.Uses.{element_of}
use Rattle.iter_unroll.specs.unrolling.Scope.{Env, lookup, Shape, index}
use Rattle.iter_unroll.specs.unrolling.Flattened.{flat_ex, join, let_slot, flat_turns, flat_of}
use Rattle.iter_unroll.proofs.accepted.Options.{Is, never, is_map, is_two, is_three, is_four, is_roomy}
use Rattle.iter_unroll.proofs.accepted.Faults.{first_nil, last_nil, right, not_false}
use Rattle.iter_unroll.proofs.accepted.Scopes.{Agrees, Knows, know_let, know_turn, no_name}
use Rattle.iter_unroll.proofs.accepted.Fields.{Inside}
use Rattle.iter_unroll.proofs.accepted.Expressions.{Stands, item_right, pad_plain, cur_plain, pad_item, cur_item, cur_plain_right, cur_item_right, kept_whole}

join_kept : (r : Reach) (a b : Fs) → Keeps r a → Keeps r b → Keeps r (join a b)
join_kept r f.end b h q = q
join_kept r (f.put_slot n e rest) b h q = (h.0, h.1, join_kept r rest b h.2 q)
join_kept r (f.put_pad o w e rest) b h q = (h.0, h.1, join_kept r rest b h.2 q)
join_kept r (f.put_cur o w e rest) b h q = (h.0, h.1, join_kept r rest b h.2 q)
join_kept r (f.choose e x y rest) b h q = (h.0, h.1, h.2, join_kept r rest b h.3 q)
join_kept r (f.done rest) b h q = join_kept r rest b h q
join_kept r (f.go e rest) b h q = (h.0, join_kept r rest b h.1 q)

-- the turns of a loop, each between two numbers
turns_kept : (r : Reach) (first past : ℕ) (b : ℕ → Option Fs) → ((i : ℕ) → first ≤ i → i < past → Is (b i) (Keeps r)) → (c i : ℕ) → first ≤ i → i + c ≤ past → Is (flat_turns b i c) (Keeps r)
turns_kept r first past b h zero i low high = tt
turns_kept r first past b h (suc c) i low high =
    is_two join (b i) (flat_turns b (i + 1) c) (Keeps r) (Keeps r) (Keeps r) (h i low (omega (arith, high))) (turns_kept r first past b h c (i + 1) (omega (arith, low)) (omega (arith, high))) (λ x y p q. join_kept r x y p q)

all_turns : (r : Reach) (first past : ℕ) (b : ℕ → Option Fs) → ((i : ℕ) → first ≤ i → i < past → Is (b i) (Keeps r)) → Is (flat_turns b first (past - first)) (Keeps r)
all_turns r first past b h = some_turns (nat_le first past) refl
  where
    some_turns : (c : Bool) → nat_le first past ≡ c → Is (flat_turns b first (past - first)) (Keeps r)
    some_turns true e = turns_kept r first past b h (past - first) first (le_refl first) (let l : first ≤ past = grind arith in omega (arith, l))
    some_turns false e =
        let l : past < first = grind arith in
        let none : 0 ≡ past - first = omega (arith, l) in
        subst (λ c. Is (flat_turns b first c) (Keeps r)) none tt

room : (n l : ℕ) → l ≡ n → nat_le 8 l ≡ false → n < 8
room n l e h = let q : l < 8 = grind arith in omega (arith, e, q)

slot_kept : (r : Reach) (o : Option Binding) (p : Option Meant) → is_let o ≡ true → Agrees r o p → Is (let_slot p) (λ k. k < 8)
slot_kept r None p e a = cc
slot_kept r (Some b) None e a = never a
slot_kept r (Some b) (Some (m.Slot k)) e a = a.1
slot_kept r (Some b) (Some (m.Number i)) e a = never (sym e ∙ a.0)
slot_kept r (Some b) (Some (m.Argument k)) e a = never (sym e ∙ a.0)

-- the parts of an empty list of faults of a let
pub record LetRight (g : Ground) (scope : Scope) (w : Word) (e : Ex) (rest : Sts) : Type 0 where
  pub fresh : bound scope w ≡ None
  pub few : nat_le 8 (lets scope) ≡ false
  pub value : whole g scope e ≡ []
  pub others : scoping g (bind w (let_sort (sort_of g scope e)) true scope) rest ≡ []

let_right : (g : Ground) (scope : Scope) (p : Place) (w : Word) (e : Ex) (rest : Sts) → scoping g scope (t.bind p w e rest) ≡ [] → LetRight g scope w e rest
let_right g scope p w e rest h =
    let a = again scope w in
    let b = fault k.LocalCount w.place (nat_le 8 (lets scope)) in
    let c = whole g scope e in
    let d = fault k.Typing (place_of e) (is_bool (sort_of g scope e)) in
    let abcd = first_nil (a ++ b ++ c ++ d) _ h in
    let abc = first_nil (a ++ b ++ c) d abcd in
    let ab = first_nil (a ++ b) c abc in
    record {
      fresh = no_name (bound scope w) (right k.Name w.place _ (first_nil a b ab));
      few = right k.LocalCount w.place _ (last_nil a b ab);
      value = last_nil (a ++ b) c abc;
      others = last_nil (a ++ b ++ c ++ d) _ h;
    }

-- those of a list of two parts, the first of which wants a type of an expression
pub record WantsRight (g : Ground) (scope : Scope) (e : Ex) (before after : List Fault) : Type 0 where
  pub first : before ≡ []
  pub value : whole g scope e ≡ []
  pub others : after ≡ []

wants_right : (g : Ground) (scope : Scope) (sort : Option Sort) (e : Ex) (before after : List Fault) → before ++ wanted g scope sort e ++ after ≡ [] → WantsRight g scope e before after
wants_right g scope sort e before after h =
    let two = first_nil (before ++ wanted g scope sort e) after h in
    record {
      first = first_nil before (wanted g scope sort e) two;
      value = first_nil (whole g scope e) _ (last_nil before (wanted g scope sort e) two);
      others = last_nil (before ++ wanted g scope sort e) after h;
    }

-- a store: its target, its value, the rest
store_right : (g : Ground) (scope : Scope) (target e : Ex) (after : List Fault) → store g scope target e ++ after ≡ [] → WantsRight g scope e (expr_faults g scope target) after
store_right g scope target e after h = wants_right g scope (sort_of g scope target) e (expr_faults g scope target) after h

pub kept : (g : Ground) (sh : Shape) (r : Reach) (scope : Scope) (loops : List Loop) (turn : List ℕ) (n : ℕ) (env : Env) → Stands g sh r → Knows r scope loops turn n env → (ss : Sts) → scoping g scope ss ≡ [] → indices g loops ss ≡ [] → Is (flat_of sh n env ss) (Keeps r)
kept g sh r scope loops turn n env st know t.end a b = tt
kept g sh r scope loops turn n env st know (t.bind p w e rest) a b =
    let c = let_right g scope p w e rest a in
    let lt = room n (lets scope) know.lets_are c.few in
    is_roomy n _ (Keeps r) lt
    (is_two (f.put_slot n) (flat_ex sh env e) (flat_of sh (suc n) ((text w, m.Slot n) ∷ env) rest) (Whole r) (Keeps r) (Keeps r)
    (kept_whole g sh r scope loops turn n env st know e c.value (first_nil (expr_indices g loops e) _ b))
    (kept g sh r (bind w (let_sort (sort_of g scope e)) true scope) loops turn (suc n) ((text w, m.Slot n) ∷ env) st
    (know_let r scope loops turn n env w (let_sort (sort_of g scope e)) c.fresh lt know) rest c.others (last_nil (expr_indices g loops e) _ b))
    (λ y z h q. (lt, h, q)))
kept g sh r scope loops turn n env st know (t.set p w e rest) a b =
    let c = wants_right g scope (target_sort (bound scope w)) e _ _ a in
    is_three f.put_slot (let_slot (lookup (text w) env)) (flat_ex sh env e) (flat_of sh n env rest) (λ j. j < 8) (Whole r) (Keeps r) (Keeps r)
    (slot_kept r (bound scope w) (lookup (text w) env) (not_false _ (right k.Name w.place _ c.first)) (know.names w))
    (kept_whole g sh r scope loops turn n env st know e c.value (first_nil (expr_indices g loops e) _ b))
    (kept g sh r scope loops turn n env st know rest c.others (last_nil (expr_indices g loops e) _ b))
    (λ j y z i h q. (i, h, q))
kept g sh r scope loops turn n env st know (t.set_pad p w e rest) a b =
    let c = store_right g scope (t.pad_field p w) e _ a in
    is_three _ (element_of sh.pad_fields w (Some 0)) (flat_ex sh env e) (flat_of sh n env rest) (Inside r.pad_size) (Whole r) (Keeps r) (Keeps r)
    (pad_plain g sh r w st c.first)
    (kept_whole g sh r scope loops turn n env st know e c.value (first_nil (expr_indices g loops e) _ b))
    (kept g sh r scope loops turn n env st know rest c.others (last_nil (expr_indices g loops e) _ b))
    (λ j y z i h q. (i, h, q))
kept g sh r scope loops turn n env st know (t.set_pad_item p w i e rest) a b =
    let c = store_right g scope (t.pad_item p w i) e _ a in
    let b2 = first_nil (expr_indices g loops (t.pad_item p w i) ++ expr_indices g loops e) _ b in
    let u = first_nil (index_fault g.pad_fields loops w i) _ (first_nil (expr_indices g loops (t.pad_item p w i)) _ b2) in
    is_three _ (element_of sh.pad_fields w (index env i)) (flat_ex sh env e) (flat_of sh n env rest) (Inside r.pad_size) (Whole r) (Keeps r) (Keeps r)
    (pad_item g sh r scope loops turn n env w i st know (item_right g scope loops g.pad_fields w i c.first u))
    (kept_whole g sh r scope loops turn n env st know e c.value (last_nil (expr_indices g loops (t.pad_item p w i)) _ b2))
    (kept g sh r scope loops turn n env st know rest c.others (last_nil (expr_indices g loops (t.pad_item p w i) ++ expr_indices g loops e) _ b))
    (λ j y z i h q. (i, h, q))
kept g sh r scope loops turn n env st know (t.set_cur p w e rest) a b =
    let c = store_right g scope (t.cur_field p w) e _ a in
    let d = cur_plain_right g p w c.first in
    is_three _ (element_of sh.record_fields w (Some 0)) (flat_ex sh env e) (flat_of sh n env rest) (Inside r.record_size) (Whole r) (Keeps r) (Keeps r)
    (cur_plain g sh r w st d.body d.others)
    (kept_whole g sh r scope loops turn n env st know e c.value (first_nil (expr_indices g loops e) _ b))
    (kept g sh r scope loops turn n env st know rest c.others (last_nil (expr_indices g loops e) _ b))
    (λ j y z i h q. (i, h, q))
kept g sh r scope loops turn n env st know (t.set_cur_item p w i e rest) a b =
    let c = store_right g scope (t.cur_item p w i) e _ a in
    let d = cur_item_right g scope p w i c.first in
    let b2 = first_nil (expr_indices g loops (t.cur_item p w i) ++ expr_indices g loops e) _ b in
    let u = first_nil (index_fault g.record_fields loops w i) _ (first_nil (expr_indices g loops (t.cur_item p w i)) _ b2) in
    is_three _ (element_of sh.record_fields w (index env i)) (flat_ex sh env e) (flat_of sh n env rest) (Inside r.record_size) (Whole r) (Keeps r) (Keeps r)
    (cur_item g sh r scope loops turn n env w i st know d.body (item_right g scope loops g.record_fields w i d.others u))
    (kept_whole g sh r scope loops turn n env st know e c.value (last_nil (expr_indices g loops (t.cur_item p w i)) _ b2))
    (kept g sh r scope loops turn n env st know rest c.others (last_nil (expr_indices g loops (t.cur_item p w i) ++ expr_indices g loops e) _ b))
    (λ j y z i h q. (i, h, q))
kept g sh r scope loops turn n env st know (t.when p c s1 rest) a b =
    let a2 = first_nil (wanted g scope (Some s.Bool) c ++ scoping g scope s1) _ a in
    let b2 = first_nil (expr_indices g loops c ++ indices g loops s1) _ b in
    is_three _ (flat_ex sh env c) (flat_of sh n env s1) (flat_of sh n env rest) (Whole r) (Keeps r) (Keeps r) (Keeps r)
    (kept_whole g sh r scope loops turn n env st know c (first_nil (whole g scope c) _ (first_nil (wanted g scope (Some s.Bool) c) _ a2)) (first_nil (expr_indices g loops c) _ b2))
    (kept g sh r scope loops turn n env st know s1 (last_nil (wanted g scope (Some s.Bool) c) _ a2) (last_nil (expr_indices g loops c) _ b2))
    (kept g sh r scope loops turn n env st know rest (last_nil (wanted g scope (Some s.Bool) c ++ scoping g scope s1) _ a) (last_nil (expr_indices g loops c ++ indices g loops s1) _ b))
    (λ y x z i h q. (i, h, tt, q))
kept g sh r scope loops turn n env st know (t.choose p c s1 s2 rest) a b =
    let w = wanted g scope (Some s.Bool) c in
    let v = expr_indices g loops c in
    let a2 = first_nil (w ++ scoping g scope s1 ++ scoping g scope s2) _ a in
    let b2 = first_nil (v ++ indices g loops s1 ++ indices g loops s2) _ b in
    let a3 = first_nil (w ++ scoping g scope s1) _ a2 in
    let b3 = first_nil (v ++ indices g loops s1) _ b2 in
    is_four f.choose (flat_ex sh env c) (flat_of sh n env s1) (flat_of sh n env s2) (flat_of sh n env rest) (Whole r) (Keeps r) (Keeps r) (Keeps r) (Keeps r)
    (kept_whole g sh r scope loops turn n env st know c (first_nil (whole g scope c) _ (first_nil w _ a3)) (first_nil v _ b3))
    (kept g sh r scope loops turn n env st know s1 (last_nil w _ a3) (last_nil v _ b3))
    (kept g sh r scope loops turn n env st know s2 (last_nil (w ++ scoping g scope s1) _ a2) (last_nil (v ++ indices g loops s1) _ b2))
    (kept g sh r scope loops turn n env st know rest (last_nil (w ++ scoping g scope s1 ++ scoping g scope s2) _ a) (last_nil (v ++ indices g loops s1 ++ indices g loops s2) _ b))
    (λ y x z u i h q o. (i, h, q, o))
kept g sh r scope loops turn n env st know (t.loop p w first past body rest) a b =
    let scope2 = bind w (Some s.Int) false scope in
    let d = again scope w ++ turns_faults w first past in
    let a2 = first_nil (d ++ scoping g scope2 body) _ a in
    let fresh = no_name (bound scope w) (right k.Name w.place _ (first_nil (again scope w) _ (first_nil d _ a2))) in
    is_two join (flat_turns (λ j. flat_of sh n ((text w, m.Number j) ∷ env) body) first (past - first)) (flat_of sh n env rest) (Keeps r) (Keeps r) (Keeps r)
    (all_turns r first past (λ j. flat_of sh n ((text w, m.Number j) ∷ env) body)
    (λ i low high. kept g sh r scope2 (loops ++ loop_of w first past ∷ []) (turn ++ i ∷ []) n ((text w, m.Number i) ∷ env) st
    (know_turn r scope loops turn n env w first past i fresh low high know) body (last_nil d _ a2) (first_nil (indices g (loops ++ loop_of w first past ∷ []) body) _ b)))
    (kept g sh r scope loops turn n env st know rest (last_nil (d ++ scoping g scope2 body) _ a) (last_nil (indices g (loops ++ loop_of w first past ∷ []) body) _ b))
    (λ x y h q. join_kept r x y h q)
kept g sh r scope loops turn n env st know (t.done p rest) a b =
    is_map f.done (flat_of sh n env rest) (Keeps r) (Keeps r) (kept g sh r scope loops turn n env st know rest a b) (λ y h. h)
kept g sh r scope loops turn n env st know (t.go p e rest) a b =
    let w = wanted g scope (Some s.Ptr) e in
    is_two f.go (flat_ex sh env e) (flat_of sh n env rest) (Whole r) (Keeps r) (Keeps r)
    (kept_whole g sh r scope loops turn n env st know e (first_nil (whole g scope e) _ (first_nil w _ a)) (first_nil (expr_indices g loops e) _ b))
    (kept g sh r scope loops turn n env st know rest (last_nil w _ a) (last_nil (expr_indices g loops e) _ b))
    (λ y z h q. (h, q))
