-- Whole iterations.
use Rattle.std.proofs.Common.{◌≡◌, ℕ, ◌+◌, true, List, [], ◌∷◌, ◌++◌, length, get_or, replicate, Some, IfSome, refl, sym, ap, subst, ◌∙◌, arith, append_assoc, length-append, zero-le, get_or-append-add, add-zero}
use Rattle.iter_syntax.specs.declared.tree.Arg.{Arg}
use Rattle.iter_syntax.specs.Tree.{Sts, block}
use Rattle.iter_check.specs.Layout.{text, size_of}
use Rattle.iter_check.specs.State.{Names, State}
use Rattle.iter_check.specs.Meaning.{Outcome, meaning, then_do}
use Rattle.iter_check.specs.Meaning as out
use Rattle.iter_check.specs.Iteration.{iterated, begun, with_arguments}
use Rattle.iter_unroll.specs.Flat.{Fs, Fixed, Slots, Leaving, Falls, Ends, flat_then}
use Rattle.iter_unroll.specs.declared.scope.Meant.TheVariants as m
use Rattle.iter_unroll.specs.unrolling.Scope.{Env, Shape}
use Rattle.iter_unroll.specs.unrolling.Flattened.{flat_of}
use Rattle.iter_unroll.specs.unrolling.Tied.{Binds, Fit, Grown, Comes, Same, as_state, setting}
use Rattle.iter_unroll.specs.Flat.{flat_iterated, start, flat_begun}
use Rattle.iter_unroll.specs.unrolling.Whole.{arguments, IterationLaw, BeginLaw}
use Rattle.iter_unroll.proofs.meaning.Leaves.{never}
use Rattle.iter_unroll.proofs.meaning.Statements.{flat_means}

same_of : (sh : Shape) (g : Fixed) (n : ℕ) (env : Env) (ss : Sts) (fs : Fs) → flat_of sh n env ss ≡ Some fs → Same sh g n env ss fs
same_of sh g n env ss fs e = subst (λ o. IfSome o (Same sh g n env ss)) e (flat_means sh g n env ss)

-- the next part begins with no names
next_comes : (g : Fixed) (Q : Slots → State → Type 0) (fo : Leaving) (o : Outcome) (f : Slots → Leaving) (h : State → Outcome) → Comes (Grown 0 [] g) fo o → ((a : Slots) → Fit 0 [] g a [] → Comes Q (f a) (h (as_state a []))) → Comes Q (flat_then fo f) (then_do o (λ s. h (record s { names = [] })))
next_comes g Q (Falls a) (out.Falls s) f h c k =
    subst (λ x. Comes Q (f a) (h (record x { names = [] }))) (sym c.is) (k a (record { few = zero-le; eight = c.fit.eight; binds = tt }))
next_comes g Q (Falls a) (out.Done s) f h c k = never c
next_comes g Q (Falls a) (out.Goes p s) f h c k = never c
next_comes g Q (Falls a) (out.Fault e) f h c k = never c
next_comes g Q (Ends r) (out.Falls s) f h c k = never c
next_comes g Q (Ends r) (out.Done s) f h c k = c
next_comes g Q (Ends r) (out.Goes p s) f h c k = c
next_comes g Q (Ends r) (out.Fault e) f h c k = c

iterated_is : (n : ℕ) (env : Env) (g : Fixed) (fo : Leaving) (o : Outcome) → Comes (Grown n env g) fo o → flat_iterated fo ≡ iterated o
iterated_is n env g (Falls a) (out.Falls s) c = sym (ap (λ x. iterated (out.Falls x)) c.is)
iterated_is n env g (Falls a) (out.Done s) c = never c
iterated_is n env g (Falls a) (out.Goes p s) c = never c
iterated_is n env g (Falls a) (out.Fault e) c = never c
iterated_is n env g (Ends r) (out.Falls s) c = never c
iterated_is n env g (Ends r) (out.Done s) c = c
iterated_is n env g (Ends r) (out.Goes p s) c = c
iterated_is n env g (Ends r) (out.Fault e) c = c

started : (g : Fixed) (bytes pad : List ℕ) → Fit 0 [] g (start bytes pad) []
started g bytes pad = record { few = zero-le; eight = refl; binds = tt }

pub iteration_is : IterationLaw
iteration_is fields it e n g bytes pad he hn =
    let sh : Shape = record { record_fields = fields; pad_fields = it.pad } in
    iterated_is 0 [] g _ _
    (next_comes g (Grown 0 [] g) _ _ _ (meaning (setting sh g) (block it.next_part)) (same_of sh g 0 [] (block it.end_part) e he (start bytes pad) [] (started g bytes pad))
    (λ a fit. same_of sh g 0 [] (block it.next_part) n hn a [] fit))

argued : (args : List Arg) (before values : List ℕ) (env : Env) (names : Names) (slots : List ℕ) → length values ≡ length args → Binds 0 env names slots (before ++ values) → Binds 0 (arguments (length before) args env) (with_arguments args values names) slots (before ++ values)
argued [] before values env names slots e b = b
argued (a ∷ args) before [] env names slots e b = never cc
argued (a ∷ args) before (v ∷ values) env names slots e b =
    let split : before ++ (v ∷ values) ≡ (before ++ (v ∷ [])) ++ values = sym (append_assoc before (v ∷ []) values) in
    let len : length (before ++ (v ∷ [])) ≡ length before + 1 = length-append before (v ∷ []) in
    let held : get_or (before ++ (v ∷ values)) (length before) 0 ≡ v = ap (λ k. get_or (before ++ (v ∷ values)) k 0) (sym (add-zero (length before))) ∙ get_or-append-add before (v ∷ values) 0 0 in
    let b2 : Binds 0 ((text a.name, m.Argument (length before)) ∷ env) ((text a.name, v) ∷ names) slots (before ++ (v ∷ values)) = (refl, held, b) in
    subst (λ all. Binds 0 (arguments (length before + 1) args ((text a.name, m.Argument (length before)) ∷ env)) (with_arguments args values ((text a.name, v) ∷ names)) slots all) (sym split)
    (subst (λ k. Binds 0 (arguments k args ((text a.name, m.Argument (length before)) ∷ env)) (with_arguments args values ((text a.name, v) ∷ names)) slots ((before ++ (v ∷ [])) ++ values)) len
    (argued args (before ++ (v ∷ [])) values ((text a.name, m.Argument (length before)) ∷ env) ((text a.name, v) ∷ names) slots (omega (arith, e))
    (subst (λ all. Binds 0 ((text a.name, m.Argument (length before)) ∷ env) ((text a.name, v) ∷ names) slots all) split b2)))

begun_is : (n : ℕ) (env : Env) (g : Fixed) (fo : Leaving) (o : Outcome) → Comes (Grown n env g) fo o → flat_begun (flat_iterated fo) ≡ begun o
begun_is n env g (Falls a) (out.Falls s) c = sym (ap (λ x. begun (out.Falls x)) c.is)
begun_is n env g (Falls a) (out.Done s) c = never c
begun_is n env g (Falls a) (out.Goes p s) c = never c
begun_is n env g (Falls a) (out.Fault e) c = never c
begun_is n env g (Ends r) (out.Falls s) c = never c
begun_is n env g (Ends r) (out.Done s) c = ap flat_begun c
begun_is n env g (Ends r) (out.Goes p s) c = ap flat_begun c
begun_is n env g (Ends r) (out.Fault e) c = ap flat_begun c

pub begin_is : BeginLaw
begin_is it b args e h =
    let g : Fixed = record { args = args; cur = 0; writable = true } in
    let sh : Shape = record { record_fields = []; pad_fields = it.pad } in
    let env : Env = arguments 0 it.args [] in
    begun_is 0 env g _ _
    (same_of sh g 0 env (block it.init_part) b h (start [] (replicate (size_of it.pad) 0)) (with_arguments it.args args [])
    (record { few = zero-le; eight = refl; binds = argued it.args [] args [] [] (replicate 8 0) e tt }))
