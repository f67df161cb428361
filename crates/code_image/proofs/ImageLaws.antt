-- A header that passes its checks, with the words that it counts, is that of the image that is made of them.
use Rattle.std.proofs.Common.{◌≡◌, ℕ, ◌*◌, List, ◌++◌, length, drop, Bool, true, false, Option, Some, None, refl, sym, ap, subst, ◌∙◌}
use Rattle.std.specs.Prelude.{not, if◌then◌else◌, Result, Ok, Err, IfOk}
use Rattle.std.proofs.lemmas.List.{take-append-drop}
use Rattle.std.proofs.lemmas.Bool.{eqb-true}
use Rattle.code_image.specs.declared.fault.ImageFault.{ImageFault}
use Rattle.code_image.specs.declared.header.Header.{Header}
use Rattle.code_image.specs.declared.image.Image.{Image}
use Rattle.code_image.specs.Layout.{header_bytes, HeaderFits, IsHeaded}
use Rattle.code_image.specs.Spelling.{header_of, words, Spells}
use Rattle.code_image.specs.Checks.{header_fault}
use Rattle.code_image.specs.Parts.{IsImageOf}

-- a check that passes, and those after it
passed : (b : Bool) (fault : ImageFault) (rest : Option ImageFault) → (if not b then Some fault else rest) ≡ None → (b ≡ true) × (rest ≡ None)
passed true fault rest e = (refl, e)
passed false fault rest e = absurd cc

pub header_is : (h : Header) (after : ℕ) (image : Image) (rest : List ℕ) → header_fault h after ≡ None → IsImageOf image h rest → header_of image ≡ h
header_is h after image rest e is =
    let magic = passed _ _ _ e in
    let version = passed _ _ _ magic.1 in
    let m : 0x4d494c50 ≡ h.magic = sym (eqb-true _ _ magic.0) in
    let v : 1 ≡ h.version = sym (eqb-true _ _ version.0) in
    let init : length image.init_code ≡ h.init_words = ap length is.made.init ∙ is.init_count in
    let body : length image.body_code ≡ h.body_words = ap length is.made.body ∙ is.body_count in
    rw (m, v, is.made.args, is.made.record_size, is.made.pad_size, init, body) refl

pub spelled : (bytes : List ℕ) (h : Header) (rest : List ℕ) (image : Image) → IsHeaded bytes h rest → header_fault h (length rest) ≡ None → IsImageOf image h rest
    → Spells bytes image
spelled bytes h rest image headed e is =
    let same = header_is h (length rest) image rest e is in
    let split : rest ≡ words is.init_code ++ words is.body_code = sym (take-append-drop (8 * h.init_words) rest) ∙ ap (λ l. l ++ drop (8 * h.init_words) rest) is.init.same ∙ ap (λ l. words is.init_code ++ l) is.body.same in
    record {
      numbers = subst HeaderFits (sym same) headed.fits;
      init = rw is.made.init is.init.fits;
      body = rw is.made.body is.body.fits;
      spelling = headed.parts ∙ ap (λ l. header_bytes h ++ l) split
          ∙ ap (λ x. header_bytes x ++ (words is.init_code ++ words is.body_code)) (sym same)
          ∙ ap (λ l. header_bytes (header_of image) ++ (words l ++ words is.body_code)) (sym is.made.init)
          ∙ ap (λ l. header_bytes (header_of image) ++ (words image.init_code ++ words l)) (sym is.made.body);
    }

pub spelled_if : (bytes : List ℕ) (h : Header) (rest : List ℕ) (r : Result Image ImageFault) → IsHeaded bytes h rest → header_fault h (length rest) ≡ None
    → IfOk r (λ image. IsImageOf image h rest) → IfOk r (λ image. Spells bytes image)
spelled_if bytes h rest (Ok image) headed e is = spelled bytes h rest image headed e is
spelled_if bytes h rest (Err fault) headed e is = tt
