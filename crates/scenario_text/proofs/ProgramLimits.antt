-- How many iterators an accepted program has, and how many arguments each of them.
use Rattle.std.proofs.Common.{◌≡◌, ◌≤◌, ◌<◌, ℕ, zero, suc, Bool, true, false, nat_lt, List, [], ◌∷◌, ◌++◌, length, Option, Some, None, is_none, option_map, arith, refl, cond, if◌then◌else◌}
use Rattle.std.proofs.lemmas.Bool.Decides.{nat_tests}
use Rattle.std.specs.Prelude.{position, slice_get}
use Rattle.std.specs.List.{flat_map, position_or_len}
use Rattle.iter_syntax.specs.declared.tree.Word.{Word}
use Rattle.iter_syntax.specs.declared.tree.RecordDecl.{RecordDecl}
use Rattle.iter_syntax.specs.declared.tree.Iter.{Iter}
use Rattle.iter_syntax.specs.declared.tree.Program.{Program}
use Rattle.iter_check.specs.declared.kind.CheckKind.{CheckKind}
use Rattle.iter_check.specs.declared.kind.CheckKind.TheVariants as k
use Rattle.iter_check.specs.declared.kind.Fault.{Fault}
use Rattle.iter_check.specs.declared.sort.Part.TheVariants as part
use Rattle.iter_check.specs.Faults.{fault, in_order, put, before}
use Rattle.iter_check.specs.FaultList.{fault_list, first_group, code_faults, index_faults, or_later, names_faults, twice, one_more, head_faults, ending_faults, block_faults, fields_faults, iter_faults, record_faults, record_for, ground, with_args}
use Rattle.scenario_text.specs.OfProgram.{arg_count}

front_nil : (xs ys : List Fault) → xs ++ ys ≡ [] → xs ≡ []
front_nil [] ys h = refl
front_nil (x ∷ xs) ys h = cc

back_nil : (xs ys : List Fault) → xs ++ ys ≡ [] → ys ≡ []
back_nil [] ys h = h
back_nil (x ∷ xs) ys h = cc

either_some : (b : Bool) (f g : Fault) (xs ys : List Fault) → (if b then f ∷ xs else g ∷ ys) ≡ [] → ⊥
either_some true f g xs ys h = cc
either_some false f g xs ys h = cc

put_some : (f : Fault) (fs : List Fault) → put f fs ≡ [] → ⊥
put_some f [] h = cc
put_some f (g ∷ gs) h = either_some (before g f) g f (put f gs) (g ∷ gs) h

none_in_order : (fs : List Fault) → in_order fs ≡ [] → fs ≡ []
none_in_order [] h = refl
none_in_order (f ∷ fs) h = absurd (put_some f (in_order fs) h)

none_first : (fs later : List Fault) → or_later fs later ≡ [] → fs ≡ []
none_first [] later h = refl
none_first (f ∷ fs) later h = h

at_most : {A : Type 0} (kind : CheckKind) (most : ℕ) (name : A → Word) (xs : List A) → one_more kind most name xs ≡ [] → length xs ≤ most
at_most kind most name [] h = omega arith
at_most kind zero name (x ∷ xs) h = cc
at_most kind (suc n) name (x ∷ xs) h = let more = at_most kind n name xs h in omega arith

none_of : {A : Type 0} (f : A → List Fault) (xs : List A) (i : ℕ) (x : A) → flat_map f xs ≡ [] → slice_get xs i ≡ Some x → f x ≡ []
none_of f [] i x h at = cc
none_of f (y ∷ ys) zero x h at =
    let e : y ≡ x = cc in
    rw (← e) (front_nil (f y) (flat_map f ys) h)
none_of f (y ∷ ys) (suc i) x h at = none_of f ys i x (back_nil (f y) (flat_map f ys) h) at

no_first_group : (p : Program) → fault_list p ≡ [] → first_group p.records p.iters ≡ []
no_first_group p h =
    none_in_order (first_group p.records p.iters)
    (none_first (in_order (first_group p.records p.iters)) (or_later (code_faults p.iters) (in_order (index_faults p.records p.iters))) h)

pub few_iters : (p : Program) → fault_list p ≡ [] → length p.iters ≤ 64
few_iters p h =
    let records = names_faults k.Count 64 (λ (r : RecordDecl). r.name) p.records in
    let iters = names_faults k.Count 64 (λ (it : Iter). it.name) p.iters in
    let group = no_first_group p h in
    let three = front_nil (records ++ iters ++ flat_map record_faults p.records) (flat_map (iter_faults p.records) p.iters) group in
    let two = front_nil (records ++ iters) (flat_map record_faults p.records) three in
    let names = back_nil records iters two in
    at_most k.Count 64 (λ (it : Iter). it.name) p.iters (back_nil (twice (λ (it : Iter). it.name) [] p.iters) (one_more k.Count 64 (λ (it : Iter). it.name) p.iters) names)

few_of : (records : List RecordDecl) (it : Iter) → iter_faults records it ≡ [] → length it.args ≤ 8
few_of records it h =
    let init = ending_faults (ground records it part.Init) (with_args it.args []) it.init_part in
    let middle = block_faults (ground records it part.End) [] it.end_part in
    let next = ending_faults (ground records it part.Next) [] it.next_part in
    let three = front_nil (head_faults records it ++ init ++ middle) next h in
    let two = front_nil (head_faults records it ++ init) middle three in
    let head = front_nil (head_faults records it) init two in
    let on = fault k.Name (it.on).place (is_none (record_for records it)) in
    let names = back_nil (on ++ fields_faults k.PadSize it.name it.pad) (names_faults k.ArgCount 8 (λ a. a.name) it.args) head in
    at_most k.ArgCount 8 (λ a. a.name) it.args (back_nil (twice (λ a. a.name) [] it.args) (one_more k.ArgCount 8 (λ a. a.name) it.args) names)

few_at : (p : Program) (i n : ℕ) (o : Option Iter) → slice_get p.iters i ≡ o → fault_list p ≡ [] → option_map (λ it. length it.args) o ≡ Some n → n ≤ 8
few_at p i n None at h e = cc
few_at p i n (Some it) at h e =
    let group = no_first_group p h in
    let front = names_faults k.Count 64 (λ (r : RecordDecl). r.name) p.records ++ names_faults k.Count 64 (λ (it : Iter). it.name) p.iters ++ flat_map record_faults p.records in
    let few = few_of p.records it (none_of (iter_faults p.records) p.iters i it (back_nil front (flat_map (iter_faults p.records) p.iters) group) at) in
    let same : length it.args ≡ n = cc in
    omega arith

pub few_args : (p : Program) (i n : ℕ) → fault_list p ≡ [] → arg_count p i ≡ Some n → n ≤ 8
few_args p i n h e = few_at p i n (slice_get p.iters i) refl h e

first_place : (b : Bool) (n len i : ℕ) → nat_lt n len ≡ b → cond b (Some n) None ≡ Some i → i < len
first_place true n len i lt h =
    let same : n ≡ i = cc in
    grind (arith, nat_tests, same)
first_place false n len i lt h = cc

pub place_within : {A : Type 0} (test : A → Bool) (xs : List A) (i : ℕ) → position test xs ≡ Some i → i < length xs
place_within test xs i h = first_place (nat_lt (position_or_len test xs) (length xs)) (position_or_len test xs) (length xs) i refl h
