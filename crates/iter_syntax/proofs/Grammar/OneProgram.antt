-- A text has at most one program or one fault, and not both.
use Rattle.std.specs.Prelude.{slice_get}
use Rattle.std.proofs.Common.{◌≡◌, ℕ, ◌+◌, List, [], length, refl, sym, ap, ◌∙◌, subst, ◌⊎◌, inl, inr, Some, None, Result, Ok, Err}
use Rattle.iter_syntax.specs.Names.{SyntaxFault, Token, Program}
use Rattle.iter_syntax.specs.declared.fault.SyntaxFault.TheVariants as F
use Rattle.iter_syntax.specs.Steps.Parsers.{Read}
use Rattle.iter_syntax.specs.Deep.{deep_place}
use Rattle.iter_syntax.specs.Steps.Reading.{TokensAnswer, HasOneReading}
use Rattle.iter_syntax.specs.Program.{IsProgram, StopsAt}
use Rattle.iter_syntax.specs.Parsed.{offset_of, IsProgramOf, ParseAnswer, HasOneProgram}
use Rattle.iter_syntax.specs.Steps.Reads.{TokensParsed}
use Rattle.iter_syntax.proofs.Grammar.Stops.{whole_got}
use Rattle.iter_syntax.proofs.Grammar.ExactDecl.{program_ok}
use Rattle.iter_syntax.proofs.Grammar.Whole.{whole_is}
use Rattle.iter_syntax.proofs.Grammar.OneStop.{one_stop}

one_of_tokens : (ts : List Token) (p q : Program) → IsProgram ts p → IsProgram ts q → p ≡ q
one_of_tokens ts p q a b =
    let depth = length ts + 1 in
    let x = whole_got _ _ _ _ _ (program_ok depth) ts p (whole_is ts p a) in
    let y = whole_got _ _ _ _ _ (program_ok depth) ts q (whole_is ts q b) in
    let z : Read p [] ≡ Read q [] = sym x ∙ y in
    cc

pub one_program : (text : List ℕ) → HasOneReading text → HasOneProgram text
one_program text reading = record { unique = unique; no_fault = no_fault; one_fault = one_fault }
  where
    unique : (p q : Program) → IsProgramOf text p → IsProgramOf text q → p ≡ q
    unique p q a b = one_of_tokens a.0 p q a.3 (subst (λ l. IsProgram l q) (reading.tokens b.0 a.0 b.1 a.1) b.3)

    no_fault : (p : Program) (fault : SyntaxFault) → IsProgramOf text p → ParseAnswer text (Err fault) → fault ≡ F.Memory
    no_fault p (F.Lex place) a h = absurd (reading.apart a.0 place a.1 h)
    no_fault p (F.Deep place) a h =
        let q : None ≡ Some place = sym a.2 ∙ ap deep_place (reading.tokens a.0 h.0 a.1 h.1) ∙ h.2 in
        absurd (cc)
    no_fault p (F.Syntax place) a h = absurd (h.4.no_program p (subst (λ l. IsProgram l p) (reading.tokens a.0 h.0 a.1 h.2) a.3))
    no_fault p F.Memory a h = refl

    one_fault : (f g : SyntaxFault) → ParseAnswer text (Err f) → ParseAnswer text (Err g) → (f ≡ F.Memory) ⊎ (g ≡ F.Memory) ⊎ (f ≡ g)
    one_fault F.Memory g a b = inl refl
    one_fault f F.Memory a b = inr (inl refl)
    one_fault (F.Lex m) (F.Lex n) a b = inr (inr (ap F.Lex (reading.lex m n a b)))
    one_fault (F.Lex m) (F.Deep n) a b = absurd (reading.apart b.0 m b.1 a)
    one_fault (F.Lex m) (F.Syntax n) a b = absurd (reading.apart b.0 m b.2 a)
    one_fault (F.Deep m) (F.Lex n) a b = absurd (reading.apart a.0 n a.1 b)
    one_fault (F.Deep m) (F.Deep n) a b =
        let q : Some m ≡ Some n = sym a.2 ∙ ap deep_place (reading.tokens a.0 b.0 a.1 b.1) ∙ b.2 in
        let e : m ≡ n = cc in
        inr (inr (ap F.Deep e))
    one_fault (F.Deep m) (F.Syntax n) a b =
        let q : Some m ≡ None = sym a.2 ∙ ap deep_place (reading.tokens a.0 b.0 a.1 b.2) ∙ b.3 in
        absurd (cc)
    one_fault (F.Syntax m) (F.Lex n) a b = absurd (reading.apart a.0 n a.2 b)
    one_fault (F.Syntax m) (F.Deep n) a b =
        let q : Some n ≡ None = sym b.2 ∙ ap deep_place (reading.tokens b.0 a.0 b.1 a.2) ∙ a.3 in
        absurd (cc)
    one_fault (F.Syntax m) (F.Syntax n) a b =
        let same = reading.tokens a.0 b.0 a.2 b.2 in
        let stop = one_stop b.0 a.1 b.1 (subst (λ l. StopsAt l a.1) same a.4) b.4 in
        inr (inr (ap F.Syntax (a.5 ∙ (λ i. offset_of (length text) (slice_get (same i) (stop i))) ∙ sym b.5)))

pub tokens_refused : (text : List ℕ) (fault : SyntaxFault) → TokensAnswer text (Err fault) → ParseAnswer text (Err fault)
tokens_refused text (F.Lex place) h = h
tokens_refused text (F.Deep place) h = h
tokens_refused text (F.Syntax place) h = absurd h
tokens_refused text F.Memory h = tt

pub text_parsed : (text : List ℕ) (ts : List Token) (r : Result Program SyntaxFault) → TokensAnswer text (Ok ts) → TokensParsed (length text) ts r → ParseAnswer text r
text_parsed text ts (Ok p) a h = (ts, a.0, a.1, h)
text_parsed text ts (Err (F.Lex place)) a h = absurd h
text_parsed text ts (Err (F.Deep place)) a h = absurd h
text_parsed text ts (Err (F.Syntax place)) a h = (ts, h.0, a.0, a.1, h.1, h.2)
text_parsed text ts (Err F.Memory) a h = tt
