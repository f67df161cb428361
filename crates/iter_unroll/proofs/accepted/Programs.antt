-- Each iterator of an accepted program has straight code, which keeps to what is there.
use Rattle.std.proofs.Common.{◌≡◌, ℕ, ◌+◌, ◌≤◌, Bool, true, false, List, [], ◌∷◌, ◌++◌, length, Option, Some, None, if◌then◌else◌, refl, sym, ap, ◌∙◌, arith, bytes_eq}
use Rattle.std.proofs.lemmas.List.Folds.{find-append}
use Rattle.std.specs.Option.{option_or}
use Rattle.std.specs.Prelude.{find, is_some}
use Rattle.iter_syntax.specs.declared.tree.Word.{Word}
use Rattle.iter_syntax.specs.declared.tree.FieldDecl.{FieldDecl}
use Rattle.iter_syntax.specs.declared.tree.Arg.{Arg}
use Rattle.iter_syntax.specs.declared.tree.Iter.{Iter}
use Rattle.iter_syntax.specs.declared.tree.Program.{Program}
use Rattle.iter_syntax.specs.Tree.{block}
use Rattle.iter_check.specs.Layout.{text, size_of}
use Rattle.iter_check.specs.declared.kind.CheckKind.TheVariants as k
use Rattle.iter_check.specs.declared.sort.Part.TheVariants as part
use Rattle.iter_check.specs.declared.scope.Binding.{Binding}
use Rattle.iter_check.specs.Faults.{fault}
use Rattle.iter_check.specs.Scope.{Scope, bound, bind}
use Rattle.iter_check.specs.FaultList.{names_one, twice, record_fields, arg_sort, with_args, ground}
use Rattle.iter_check.specs.Accepted.{AcceptedIter}
use Rattle.iter_unroll.specs.declared.scope.Meant.TheVariants as m
use Rattle.iter_unroll.specs.Limits.{Reach, Keeps}
use Rattle.iter_unroll.specs.unrolling.Scope.{Env}
use Rattle.iter_unroll.specs.unrolling.Flattened.{flat_of}
use Rattle.iter_unroll.specs.unrolling.Whole.{arguments, shape}
use Rattle.iter_unroll.proofs.accepted.Options.{Is}
use Rattle.iter_unroll.proofs.accepted.Faults.{first_nil, last_nil, right}
use Rattle.iter_unroll.proofs.accepted.Scopes.{Knows, know_argument, know_nothing, no_name}
use Rattle.iter_unroll.proofs.accepted.Statements.{kept}

-- the names in scope are those of the arguments before
abbrev Same : Scope → List Arg → Type 0
Same scope earlier = (w : Word) → is_some (bound scope w) ≡ names_one (λ (a : Arg). a.name) earlier w

either_some : {A B : Type 0} (o : Option A) (p : Option B) (c : Bool) (x : A) (y : B) → is_some o ≡ is_some p → is_some (option_or o (if c then Some x else None)) ≡ is_some (option_or p (if c then Some y else None))
either_some None None true x y e = refl
either_some None None false x y e = refl
either_some None (Some q) c x y e = cc
either_some (Some q) None c x y e = cc
either_some (Some q) (Some r) c x y e = refl

same_more : (scope : Scope) (earlier : List Arg) (a : Arg) → Same scope earlier → Same (bind a.name (Some (arg_sort a)) false scope) (earlier ++ a ∷ [])
same_more scope earlier a h w =
    ap is_some (find-append (λ (b : Binding). bytes_eq b.text (text w)) scope _)
    ∙ either_some (bound scope w) (find (λ (x : Arg). bytes_eq (text x.name) (text w)) earlier) (bytes_eq (text a.name) (text w)) _ a (h w)
    ∙ sym (ap is_some (find-append (λ (x : Arg). bytes_eq (text x.name) (text w)) earlier (a ∷ [])))

know_args : (r : Reach) (args earlier : List Arg) (scope : Scope) (env : Env) (j : ℕ) → Same scope earlier → twice (λ (a : Arg). a.name) earlier args ≡ [] → j + length args ≤ r.args → Knows r scope [] [] 0 env → Knows r (with_args args scope) [] [] 0 (arguments j args env)
know_args r [] earlier scope env j s e le know = know
know_args r (a ∷ args) earlier scope env j s e le know =
    let fresh = no_name (bound scope a.name) (s a.name ∙ right k.Name (a.name).place _ (first_nil (fault k.Name (a.name).place (names_one (λ (x : Arg). x.name) earlier a.name)) _ e)) in
    know_args r args (earlier ++ a ∷ []) (bind a.name (Some (arg_sort a)) false scope) ((text a.name, m.Argument j) ∷ env) (j + 1) (same_more scope earlier a s)
    (last_nil (fault k.Name (a.name).place (names_one (λ (x : Arg). x.name) earlier a.name)) _ e) (omega (arith, le))
    (know_argument r scope [] [] 0 env a.name (Some (arg_sort a)) j fresh (omega (arith, le)) know)

-- what the parts may name
abbrev pub init_room : Iter → Reach
init_room it = record { args = length it.args; record_size = 0; pad_size = size_of it.pad }

abbrev pub body_room : List FieldDecl → Iter → Reach
body_room fields it = record { args = 0; record_size = size_of fields; pad_size = size_of it.pad }

pub init_kept : (p : Program) (it : Iter) → AcceptedIter p it → Is (flat_of (shape [] it) 0 (arguments 0 it.args []) (block it.init_part)) (Keeps (init_room it))
init_kept p it h =
    kept (ground p.records it part.Init) (shape [] it) (init_room it) (with_args it.args []) [] [] 0 (arguments 0 it.args [])
    (record { pad_is = refl; pad_size = refl; record_is = λ e. no e; record_size = λ e. no e; some_record = λ e. no e })
    (know_args (init_room it) it.args [] [] [] 0 (λ w. refl) h.args_differ (omega arith) (know_nothing (init_room it)))
    (block it.init_part) h.init_part.scoping h.init_part.indices
  where
    no : {A : Type 0} → true ≡ false → A
    no e = cc

pub end_kept : (p : Program) (it : Iter) → AcceptedIter p it → Is (flat_of (shape (record_fields p.records it) it) 0 [] (block it.end_part)) (Keeps (body_room (record_fields p.records it) it))
end_kept p it h =
    kept (ground p.records it part.End) (shape (record_fields p.records it) it) (body_room (record_fields p.records it) it) [] [] [] 0 []
    (record { pad_is = refl; pad_size = refl; record_is = λ e. refl; record_size = λ e. refl; some_record = λ e. h.record_size.0 })
    (know_nothing (body_room (record_fields p.records it) it)) (block it.end_part) h.end_part.scoping h.end_part.indices

pub next_kept : (p : Program) (it : Iter) → AcceptedIter p it → Is (flat_of (shape (record_fields p.records it) it) 0 [] (block it.next_part)) (Keeps (body_room (record_fields p.records it) it))
next_kept p it h =
    kept (ground p.records it part.Next) (shape (record_fields p.records it) it) (body_room (record_fields p.records it) it) [] [] [] 0 []
    (record { pad_is = refl; pad_size = refl; record_is = λ e. refl; record_size = λ e. refl; some_record = λ e. h.record_size.0 })
    (know_nothing (body_room (record_fields p.records it) it)) (block it.next_part) h.next_part.scoping h.next_part.indices
