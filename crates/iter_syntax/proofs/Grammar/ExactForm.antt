-- The same of forms.
use Rattle.std.proofs.Common.{◌≡◌, ◌≤◌, Bool, true, false, [], ◌++◌, length, refl, sym, subst, arith}
use Rattle.iter_syntax.specs.Names.{Token}
use Rattle.iter_syntax.specs.Form.{Form, one, both, gives, any, maybe, or, framed, none}
use Rattle.iter_syntax.proofs.Grammar.Exact.{Exact, nil_left, token_right, then_right, value_right}
use Rattle.iter_syntax.proofs.Grammar.ExactMany.{many_right}
use Rattle.iter_syntax.proofs.Grammar.ExactChoice.{either_right, optional_right, framed_right}

abbrev pub IsExact : {A : Type 0} → Form A → Type 0
IsExact f = Exact f.grammar f.parse f.first f.more f.empty

pub one_ok : (k : Token → Bool) → IsExact (one k)
one_ok k = token_right k

pub both_ok : {A B : Type 0} (a : Form A) (b : Form B) → IsExact a → IsExact b → ((t : Token) → b.first t ≡ true → a.more t ≡ false) → IsExact (both a b)
both_ok a b ra rb apart = then_right _ _ _ _ _ _ _ _ _ _ ra rb apart

pub gives_ok : {A B : Type 0} (f : A → B) (a : Form A) → IsExact a → IsExact (gives f a)
gives_ok f a ra = value_right f _ _ _ _ _ ra

pub any_ok : {A : Type 0} (a : Form A) → a.empty ≡ false → IsExact a → ((t : Token) → a.first t ≡ true → a.more t ≡ false) → IsExact (any a)
any_ok a e ra apart = many_right _ _ _ _ (subst (λ b. Exact a.grammar a.parse a.first a.more b) e ra) apart

pub or_ok : {A : Type 0} (a b : Form A) → a.empty ≡ false → b.empty ≡ false → IsExact a → IsExact b → ((t : Token) → b.first t ≡ true → a.first t ≡ false) → IsExact (or a b)
or_ok a b ea eb ra rb apart = either_right _ _ _ _ _ _ _ _ (subst (λ e. Exact a.grammar a.parse a.first a.more e) ea ra) (subst (λ e. Exact b.grammar b.parse b.first b.more e) eb rb) apart

pub none_ok : (A : Type 0) (first more : Token → Bool) → IsExact (none {A = A} first more)
none_ok A first more = record {
  sound = λ ts. ([], refl, refl);
  complete = λ u rest a w off. absurd w;
  viable = λ v w e. subst (λ l. length (l ++ w) ≤ length w) (sym e) (omega arith);
  starts = λ t v e. absurd (cc);
  within = λ u a w. absurd w;
  opens = λ u v e. nil_left u v e;
  solid = λ a w. absurd w;
}

pub maybe_ok : {A : Type 0} (a : Form A) → a.empty ≡ false → IsExact a → IsExact (maybe a)
maybe_ok a e ra = optional_right _ _ _ _ (subst (λ b. Exact a.grammar a.parse a.first a.more b) e ra)

pub framed_ok : {A : Type 0} (first more : Token → Bool) (a : Form A) → a.empty ≡ false → ((t : Token) → a.first t ≡ true → first t ≡ true) → ((t : Token) → a.more t ≡ true → more t ≡ true) → IsExact a → IsExact (framed first more a)
framed_ok first more a e le1 le2 ra = framed_right _ _ _ _ first more le1 le2 (subst (λ b. Exact a.grammar a.parse a.first a.more b) e ra)
