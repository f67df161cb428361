-- Bytes that are no image are refused for the fault that decoding them tells.
use Rattle.std.proofs.Common.{◌≡◌, ◌≢◌, ℕ, List, refl, sym, subst}
use Rattle.code_image.specs.declared.fault.ImageFault.{ImageFault}
use Rattle.code_image.specs.declared.fault.ImageFault.TheVariants as image
use Rattle.code_image.specs.Checks.{Refuses}
use Rattle.pulse_cli.specs.Steps.{IsOfImage}
use Rattle.pulse_cli.specs.declared.failure.Failure.{Failure}
use Rattle.pulse_cli.specs.declared.failure.Failure.TheVariants as f
use Rattle.pulse_cli.specs.declared.failure.Refusal.TheVariants as r

-- a failure that tells a fault of the bytes, or the want of memory
abbrev Tells : List ℕ → ImageFault → Failure → Type 0
Tells bytes fault failure =
    (fault ≡ image.Memory → failure ≡ f.Memory)
    × (fault ≢ image.Memory → failure ≡ f.Refused (r.Image fault))
    × (fault ≢ image.Memory → Refuses bytes fault)

other : (bytes : List ℕ) (fault : ImageFault) (failure : Failure) → fault ≢ image.Memory → Tells bytes fault failure → IsOfImage bytes failure
other bytes fault failure differs t = subst (IsOfImage bytes) (sym (t.1 differs)) (differs, t.2 differs)

pub of_image : (bytes : List ℕ) (fault : ImageFault) (failure : Failure) → Tells bytes fault failure → IsOfImage bytes failure
of_image bytes image.Memory failure t = subst (IsOfImage bytes) (sym (t.0 refl)) tt
of_image bytes image.Short failure t = other bytes image.Short failure (λ e. cc) t
of_image bytes image.Magic failure t = other bytes image.Magic failure (λ e. cc) t
of_image bytes image.Version failure t = other bytes image.Version failure (λ e. cc) t
of_image bytes image.Size failure t = other bytes image.Size failure (λ e. cc) t
of_image bytes image.Long failure t = other bytes image.Long failure (λ e. cc) t
of_image bytes (image.Word i) failure t = other bytes (image.Word i) failure (λ e. cc) t
of_image bytes (image.Bad body bad) failure t = other bytes (image.Bad body bad) failure (λ e. cc) t
