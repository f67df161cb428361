-- The flat form of each statement before a rest.
use Rattle.std.proofs.Common.{rules, ◌≡◌, ℕ, suc, ◌<◌, ◌≤◌, Bool, true, false, List, [], ◌∷◌, Option, Some, None, option_map, map, nat_lt, if◌then◌else◌, refl, sym, ap, ap₂, ◌∙◌, arith}
use Rattle.iter_syntax.specs.declared.tree.Place.{Place}
use Rattle.iter_syntax.specs.declared.tree.Word.{Word}
use Rattle.iter_syntax.specs.Tree.{Ex, Sts, to_pad, to_cur}
use Rattle.iter_syntax.specs.Tree as t
use Rattle.iter_check.specs.Layout.{text}
use Rattle.iter_unroll.specs.declared.tree.FlatUse.{FlatUse}
use Rattle.iter_unroll.specs.declared.tree.FlatExpr.{FlatExpr}
use Rattle.iter_unroll.specs.declared.tree.FlatStmt.{FlatStmt, the_lemmas}
use Rattle.iter_unroll.specs.declared.tree.FlatStmt.TheVariants as T
use Rattle.iter_unroll.specs.Flat.{Fx, Fs}
use Rattle.iter_unroll.specs.Flat as f
use Rattle.iter_unroll.specs.declared.scope.Meant.TheVariants as m
use Rattle.iter_unroll.specs.Uses.{element_of}
use Rattle.iter_unroll.specs.unrolling.Scope.{Env, Shape, lookup, map2, map3}
use Rattle.iter_unroll.specs.unrolling.Flattened.{let_slot, flat_ex, flat_of}
use Rattle.iter_unroll.specs.Tree.{fx, fst, fsts, row}
use Rattle.iter_unroll.specs.unrolling.Views.{use_of, number_of}

pub fst_local : (k : ℕ) (e : FlatExpr) (rest : Fs) → fst (T.Local k e) rest ≡ f.put_slot k (fx e) rest
fst_local k e rest = search (rules, the_lemmas)

pub fst_pad : (u : FlatUse) (e : FlatExpr) (rest : Fs) → fst (T.Pad u e) rest ≡ f.put_pad u.off u.width (fx e) rest
fst_pad u e rest = search (rules, the_lemmas)

pub fst_cur : (u : FlatUse) (e : FlatExpr) (rest : Fs) → fst (T.Cur u e) rest ≡ f.put_cur u.off u.width (fx e) rest
fst_cur u e rest = search (rules, the_lemmas)

pub fst_done : (rest : Fs) → fst T.Done rest ≡ f.done rest
fst_done rest = search (rules, the_lemmas)

pub fst_go : (e : FlatExpr) (rest : Fs) → fst (T.Go e) rest ≡ f.go (fx e) rest
fst_go e rest = search (rules, the_lemmas)

map_row : (ss : List FlatStmt) → row (map fst ss) f.end ≡ fsts ss
map_row [] = refl
map_row (s ∷ ss) = ap (fst s) (map_row ss)

pub fst_if : (e : FlatExpr) (a b : List FlatStmt) (rest : Fs) → fst (T.If e a b) rest ≡ f.choose (fx e) (fsts a) (fsts b) rest
fst_if e a b rest =
    let is : fst (T.If e a b) rest ≡ f.choose (fx e) (row (map fst a) f.end) (row (map fst b) f.end) rest = search (rules, the_lemmas) in
    is ∙ ap₂ (λ x y. f.choose (fx e) x y rest) (map_row a) (map_row b)

pub same_map : {A B : Type 0} (g h : A → B) (o : Option A) → ((x : A) → g x ≡ h x) → option_map g o ≡ option_map h o
same_map g h None e = refl
same_map g h (Some x) e = ap Some (e x)

two_map : {A B C : Type 0} (h : A → B → C) (x : A) (o : Option B) → map2 h (Some x) o ≡ option_map (h x) o
two_map h x None = refl
two_map h x (Some y) = refl

two_none : {A B C : Type 0} (h : A → B → C) (o : Option A) → map2 h o None ≡ None
two_none h None = refl
two_none h (Some x) = refl

pub three_map : {A B C D : Type 0} (h : A → B → C → D) (x : A) (y : B) (o : Option C) → map3 h (Some x) (Some y) o ≡ option_map (h x y) o
three_map h x y o = two_map (h x) y o

three_none : {A B C D : Type 0} (h : A → B → C → D) (a : Option A) (c : Option C) → map3 h a None c ≡ None
three_none h None c = refl
three_none h (Some x) c = refl

room : (b : Bool) (n : ℕ) (o : Option Fs) → nat_lt n 8 ≡ b → n < 8 → (if b then o else None) ≡ o
room true n o e h = refl
room false n o e h = absurd (grind arith)

no_room : (b : Bool) (n : ℕ) (o : Option Fs) → nat_lt n 8 ≡ b → 8 ≤ n → (if b then o else None) ≡ None
no_room true n o e h = absurd (grind arith)
no_room false n o e h = refl

room_none : (b : Bool) (o : Option Fs) → o ≡ None → (if b then o else None) ≡ None
room_none true o e = e
room_none false o e = refl

pub let_is : (sh : Shape) (n : ℕ) (env : Env) (p : Place) (w : Word) (e : Ex) (x : FlatExpr) (rest : Sts) → n < 8 → flat_ex sh env e ≡ Some (fx x) → flat_of sh n env (t.bind p w e rest) ≡ option_map (fst (T.Local n x)) (flat_of sh (suc n) ((text w, m.Slot n) ∷ env) rest)
let_is sh n env p w e x rest lt h =
    room (nat_lt n 8) n _ refl lt
    ∙ ap (λ o. map2 (f.put_slot n) o (flat_of sh (suc n) ((text w, m.Slot n) ∷ env) rest)) h
    ∙ two_map (f.put_slot n) (fx x) _
    ∙ same_map _ _ (flat_of sh (suc n) ((text w, m.Slot n) ∷ env) rest) (λ r. sym (fst_local n x r))

pub let_none : (sh : Shape) (n : ℕ) (env : Env) (p : Place) (w : Word) (e : Ex) (rest : Sts) → flat_ex sh env e ≡ None → flat_of sh n env (t.bind p w e rest) ≡ None
let_none sh n env p w e rest h =
    room_none (nat_lt n 8) _ (ap (λ o. map2 (f.put_slot n) o (flat_of sh (suc n) ((text w, m.Slot n) ∷ env) rest)) h)

pub let_full : (sh : Shape) (n : ℕ) (env : Env) (p : Place) (w : Word) (e : Ex) (rest : Sts) → 8 ≤ n → flat_of sh n env (t.bind p w e rest) ≡ None
let_full sh n env p w e rest h = no_room (nat_lt n 8) n _ refl h

pub set_is : (sh : Shape) (n : ℕ) (env : Env) (p : Place) (w : Word) (e : Ex) (k : ℕ) (x : FlatExpr) (rest : Sts) → Some k ≡ let_slot (lookup (text w) env) → flat_ex sh env e ≡ Some (fx x) → flat_of sh n env (t.set p w e rest) ≡ option_map (fst (T.Local k x)) (flat_of sh n env rest)
set_is sh n env p w e k x rest hk h =
    ap₂ (λ o q. map3 f.put_slot o q (flat_of sh n env rest)) (sym hk) h
    ∙ three_map f.put_slot k (fx x) (flat_of sh n env rest)
    ∙ same_map _ _ (flat_of sh n env rest) (λ r. sym (fst_local k x r))

pub set_no_slot : (sh : Shape) (n : ℕ) (env : Env) (p : Place) (w : Word) (e : Ex) (rest : Sts) → None ≡ let_slot (lookup (text w) env) → flat_of sh n env (t.set p w e rest) ≡ None
set_no_slot sh n env p w e rest hk = ap (λ o. map3 f.put_slot o (flat_ex sh env e) (flat_of sh n env rest)) (sym hk)

pub set_no_value : (sh : Shape) (n : ℕ) (env : Env) (p : Place) (w : Word) (e : Ex) (rest : Sts) → flat_ex sh env e ≡ None → flat_of sh n env (t.set p w e rest) ≡ None
set_no_value sh n env p w e rest h = ap (λ o. map3 f.put_slot (let_slot (lookup (text w) env)) o (flat_of sh n env rest)) h ∙ three_none f.put_slot (let_slot (lookup (text w) env)) (flat_of sh n env rest)

pad_flat : (sh : Shape) (n : ℕ) (env : Env) (p : Place) (w : Word) (i : Option Ex) (e : Ex) (rest : Sts) → flat_of sh n env (to_pad p w i e rest) ≡ map3 (λ u. f.put_pad u.0 u.1) (element_of sh.pad_fields w (number_of env i)) (flat_ex sh env e) (flat_of sh n env rest)
pad_flat sh n env p w None e rest = refl
pad_flat sh n env p w (Some i) e rest = refl

pub pad_is : (sh : Shape) (n : ℕ) (env : Env) (p : Place) (w : Word) (i : Option Ex) (e : Ex) (u : FlatUse) (x : FlatExpr) (rest : Sts) → element_of sh.pad_fields w (number_of env i) ≡ Some (use_of u) → flat_ex sh env e ≡ Some (fx x) → flat_of sh n env (to_pad p w i e rest) ≡ option_map (fst (T.Pad u x)) (flat_of sh n env rest)
pad_is sh n env p w i e u x rest hu h =
    pad_flat sh n env p w i e rest
    ∙ ap₂ (λ o q. map3 (λ v. f.put_pad v.0 v.1) o q (flat_of sh n env rest)) hu h
    ∙ three_map (λ v. f.put_pad v.0 v.1) (use_of u) (fx x) (flat_of sh n env rest)
    ∙ same_map _ _ (flat_of sh n env rest) (λ r. sym (fst_pad u x r))

pub pad_no_field : (sh : Shape) (n : ℕ) (env : Env) (p : Place) (w : Word) (i : Option Ex) (e : Ex) (rest : Sts) → element_of sh.pad_fields w (number_of env i) ≡ None → flat_of sh n env (to_pad p w i e rest) ≡ None
pad_no_field sh n env p w i e rest hu = pad_flat sh n env p w i e rest ∙ ap (λ o. map3 (λ v. f.put_pad v.0 v.1) o (flat_ex sh env e) (flat_of sh n env rest)) hu

pub pad_no_value : (sh : Shape) (n : ℕ) (env : Env) (p : Place) (w : Word) (i : Option Ex) (e : Ex) (rest : Sts) → flat_ex sh env e ≡ None → flat_of sh n env (to_pad p w i e rest) ≡ None
pad_no_value sh n env p w i e rest h =
    pad_flat sh n env p w i e rest
    ∙ ap (λ o. map3 (λ v. f.put_pad v.0 v.1) (element_of sh.pad_fields w (number_of env i)) o (flat_of sh n env rest)) h
    ∙ three_none (λ v. f.put_pad v.0 v.1) (element_of sh.pad_fields w (number_of env i)) (flat_of sh n env rest)

cur_flat : (sh : Shape) (n : ℕ) (env : Env) (p : Place) (w : Word) (i : Option Ex) (e : Ex) (rest : Sts) → flat_of sh n env (to_cur p w i e rest) ≡ map3 (λ u. f.put_cur u.0 u.1) (element_of sh.record_fields w (number_of env i)) (flat_ex sh env e) (flat_of sh n env rest)
cur_flat sh n env p w None e rest = refl
cur_flat sh n env p w (Some i) e rest = refl

pub cur_is : (sh : Shape) (n : ℕ) (env : Env) (p : Place) (w : Word) (i : Option Ex) (e : Ex) (u : FlatUse) (x : FlatExpr) (rest : Sts) → element_of sh.record_fields w (number_of env i) ≡ Some (use_of u) → flat_ex sh env e ≡ Some (fx x) → flat_of sh n env (to_cur p w i e rest) ≡ option_map (fst (T.Cur u x)) (flat_of sh n env rest)
cur_is sh n env p w i e u x rest hu h =
    cur_flat sh n env p w i e rest
    ∙ ap₂ (λ o q. map3 (λ v. f.put_cur v.0 v.1) o q (flat_of sh n env rest)) hu h
    ∙ three_map (λ v. f.put_cur v.0 v.1) (use_of u) (fx x) (flat_of sh n env rest)
    ∙ same_map _ _ (flat_of sh n env rest) (λ r. sym (fst_cur u x r))

pub cur_no_field : (sh : Shape) (n : ℕ) (env : Env) (p : Place) (w : Word) (i : Option Ex) (e : Ex) (rest : Sts) → element_of sh.record_fields w (number_of env i) ≡ None → flat_of sh n env (to_cur p w i e rest) ≡ None
cur_no_field sh n env p w i e rest hu = cur_flat sh n env p w i e rest ∙ ap (λ o. map3 (λ v. f.put_cur v.0 v.1) o (flat_ex sh env e) (flat_of sh n env rest)) hu

pub cur_no_value : (sh : Shape) (n : ℕ) (env : Env) (p : Place) (w : Word) (i : Option Ex) (e : Ex) (rest : Sts) → flat_ex sh env e ≡ None → flat_of sh n env (to_cur p w i e rest) ≡ None
cur_no_value sh n env p w i e rest h =
    cur_flat sh n env p w i e rest
    ∙ ap (λ o. map3 (λ v. f.put_cur v.0 v.1) (element_of sh.record_fields w (number_of env i)) o (flat_of sh n env rest)) h
    ∙ three_none (λ v. f.put_cur v.0 v.1) (element_of sh.record_fields w (number_of env i)) (flat_of sh n env rest)

pub go_is : (sh : Shape) (n : ℕ) (env : Env) (p : Place) (e : Ex) (x : FlatExpr) (rest : Sts) → flat_ex sh env e ≡ Some (fx x) → flat_of sh n env (t.go p e rest) ≡ option_map (fst (T.Go x)) (flat_of sh n env rest)
go_is sh n env p e x rest h =
    ap (λ o. map2 f.go o (flat_of sh n env rest)) h ∙ two_map f.go (fx x) (flat_of sh n env rest) ∙ same_map _ _ (flat_of sh n env rest) (λ r. sym (fst_go x r))

pub go_none : (sh : Shape) (n : ℕ) (env : Env) (p : Place) (e : Ex) (rest : Sts) → flat_ex sh env e ≡ None → flat_of sh n env (t.go p e rest) ≡ None
go_none sh n env p e rest h = ap (λ o. map2 f.go o (flat_of sh n env rest)) h
