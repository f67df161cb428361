-- The bytes of an image that means an iterator.
use Rattle.std.proofs.Common.{◌≡◌, ◌<◌, ℕ, zero, suc, List, [], ◌∷◌, length, Some, refl, subst, arith}
use Rattle.std.specs.Prelude.{slice_get, Result, IfOk}
use Rattle.std.proofs.lemmas.Result.{IfOk-weaker}
use Rattle.pulse_base.specs.declared.listed.Memory.{Memory}
use Rattle.iter_syntax.specs.declared.tree.Program.{Program}
use Rattle.code_image.specs.declared.image.Image.{Image}
use Rattle.code_image.specs.Spelling.{Spells}
use Rattle.pulse_codegen.specs.Compiled.{Compiles}
use Rattle.pulse_cli.specs.Answers.{SpellsIter}

item_there : {A : Type 0} (xs : List A) (k : ℕ) → k < length xs → (x : A) × (slice_get xs k ≡ Some x)
item_there [] k h = absurd (omega (arith, h))
item_there (x ∷ xs) zero h = (x, refl)
item_there (x ∷ xs) (suc k) h = item_there xs k (omega (arith, h))

pub spells_iter : (built p : Program) (number : ℕ) (image : Image) (r : Result (List ℕ) Memory) → built ≡ p → number < length p.iters → Compiles built number image
    → IfOk r (λ bytes. Spells bytes image) → IfOk r (SpellsIter p number)
spells_iter built p number image r same low compiles spells =
    let moved : Compiles p number image = subst (λ (q : Program). Compiles q number image) same compiles in
    let found = item_there p.iters number low in
    IfOk-weaker r _ _ (λ bytes h. (found.0, image, found.1, moved found.0 found.1, h)) spells
