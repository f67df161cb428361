-- A form that may stand deeper is the same for token lists that are short enough.
use Rattle.std.proofs.Common.{◌≡◌, ℕ, zero, suc, ◌<◌, ◌≤◌, Bool, true, false, nat_eq, List, [], ◌∷◌, length, sym, ap, subst, ◌⊎◌, inl, inr, arith, length-append, Option, Some, None}
use Rattle.iter_syntax.specs.Names.{Token, Keyword, Symbol, Expr, Block}
use Rattle.iter_syntax.specs.declared.token.Keyword.TheVariants as W
use Rattle.iter_syntax.specs.declared.token.Symbol.TheVariants as S
use Rattle.iter_syntax.specs.Grammar.{Grammar, token, pair, value, row, many, optional, whole_or_nothing, either, nothing}
use Rattle.iter_syntax.specs.Form.{Form, both}
use Rattle.iter_syntax.specs.Steps.Parsers.{Reading, Read, Stuck}
use Rattle.iter_syntax.specs.Kinds.{is_symbol, is_keyword}
use Rattle.iter_syntax.specs.Productions as P
use Rattle.iter_syntax.proofs.Grammar.Splits.{Tokens}
use Rattle.iter_syntax.proofs.Grammar.Exact.{Fitting, nil_left}
use Rattle.iter_syntax.proofs.Grammar.ExactForm.{IsExact}
use Rattle.iter_syntax.proofs.Grammar.ExactExpr.{unary_ok}
use Rattle.iter_syntax.proofs.Grammar.ExactStmt.{block_ok}

-- for fewer than k tokens, what is the one form is the other
pub record Under {A : Type 0} (k : ℕ) (a b : Grammar A) : Type 0 where
  pub whole : (ts : Tokens) → length ts < k → (x : A) → a.whole ts x → b.whole ts x
  pub begins : (ts : Tokens) → length ts < k → a.begins ts → b.begins ts

same : {A : Type 0} (k : ℕ) (a : Grammar A) → Under k a a
same k a = record { whole = λ ts lt x w. w; begins = λ ts lt h. h }

under_pair : {A B : Type 0} (k : ℕ) (a b : Grammar A) (c d : Grammar B) → Under k a b → Under k c d → Under k (pair a c) (pair b d)
under_pair k a b c d p q = record {
  whole = λ ts lt x w. (w.0, w.1, w.2, p.whole w.0 (omega (arith, ap length w.2, length-append w.0 w.1)) x.0 w.3, q.whole w.1 (omega (arith, ap length w.2, length-append w.0 w.1)) x.1 w.4);
  begins = begins;
}
  where
    begins : (ts : Tokens) → length ts < k → (pair a c).begins ts → (pair b d).begins ts
    begins ts lt (inl h) = inl (p.begins ts lt h)
    begins ts lt (inr (u, v, x, e, w, h)) =
        inr (u, v, x, e, p.whole u (omega (arith, ap length e, length-append u v)) x w, q.begins v (omega (arith, ap length e, length-append u v)) h)

-- a form with a token before it
abbrev pub Solid : {A : Type 0} → Grammar A → Type 0
Solid g = (u : Tokens) (x : _) → g.whole u x → 1 ≤ length u

under_after : {A B : Type 0} (k : ℕ) (a : Grammar A) (c d : Grammar B) → Solid a → Under k c d → Under (suc k) (pair a c) (pair a d)
under_after k a c d solid q = record {
  whole = λ ts lt x w. (w.0, w.1, w.2, w.3, q.whole w.1 (omega (arith, solid w.0 x.0 w.3, ap length w.2, length-append w.0 w.1)) x.1 w.4);
  begins = begins;
}
  where
    begins : (ts : Tokens) → length ts < suc k → (pair a c).begins ts → (pair a d).begins ts
    begins ts lt (inl h) = inl h
    begins ts lt (inr (u, v, x, e, w, h)) = inr (u, v, x, e, w, q.begins v (omega (arith, solid u x w, ap length e, length-append u v)) h)

under_value : {A B : Type 0} (k : ℕ) (f : A → B) (a b : Grammar A) → Under k a b → Under k (value f a) (value f b)
under_value k f a b p = record { whole = λ ts lt y w. (w.0, p.whole ts lt w.0 w.1, w.2); begins = p.begins }

under_row : {A : Type 0} (k : ℕ) (a b : Grammar A) → Under k a b → (xs : List A) (ts : Tokens) → length ts < k → row a xs ts → row b xs ts
under_row k a b p [] ts lt w = w
under_row k a b p (x ∷ xs) ts lt w =
    (w.0, w.1, w.2, p.whole w.0 (omega (arith, ap length w.2, length-append w.0 w.1)) x w.3, under_row k a b p xs w.1 (omega (arith, ap length w.2, length-append w.0 w.1)) w.4)

under_many : {A : Type 0} (k : ℕ) (a b : Grammar A) → Under k a b → Under k (many a) (many b)
under_many k a b p = record {
  whole = λ ts lt xs w. under_row k a b p xs ts lt w;
  begins = λ ts lt h. (h.0, h.1, h.2, h.3, under_row k a b p h.2 h.0 (omega (arith, ap length h.3, length-append h.0 h.1)) h.4, last h.1 (omega (arith, ap length h.3, length-append h.0 h.1)) h.5);
}
  where
    last : (v : Tokens) → length v < k → (v ≡ []) ⊎ a.begins v → (v ≡ []) ⊎ b.begins v
    last v lt (inl e) = inl e
    last v lt (inr h) = inr (p.begins v lt h)

under_optional : {A : Type 0} (k : ℕ) (a b : Grammar A) → Under k a b → Under k (optional a) (optional b)
under_optional k a b p = record { whole = whole; begins = begins }
  where
    whole : (ts : Tokens) → length ts < k → (x : Option _) → whole_or_nothing a ts x → whole_or_nothing b ts x
    whole ts lt None w = w
    whole ts lt (Some x) w = p.whole ts lt x w

    begins : (ts : Tokens) → length ts < k → (optional a).begins ts → (optional b).begins ts
    begins ts lt (inl e) = inl e
    begins ts lt (inr h) = inr (p.begins ts lt h)

under_either : {A : Type 0} (k : ℕ) (a b c d : Grammar A) → Under k a b → Under k c d → Under k (either a c) (either b d)
under_either k a b c d p q = record { whole = whole; begins = begins }
  where
    whole : (ts : Tokens) → length ts < k → (x : _) → (either a c).whole ts x → (either b d).whole ts x
    whole ts lt x (inl w) = inl (p.whole ts lt x w)
    whole ts lt x (inr w) = inr (q.whole ts lt x w)

    begins : (ts : Tokens) → length ts < k → (either a c).begins ts → (either b d).begins ts
    begins ts lt (inl h) = inl (p.begins ts lt h)
    begins ts lt (inr h) = inr (q.begins ts lt h)

under_nothing : {A : Type 0} (k : ℕ) (b : Grammar A) → b.begins [] → Under k nothing b
under_nothing k b h = record { whole = λ ts lt x w. absurd w; begins = λ ts lt e. subst b.begins (sym e) h }

under_zero : {A : Type 0} (a b : Grammar A) → Under 0 a b
under_zero a b = record { whole = λ ts lt x w. absurd (omega arith); begins = λ ts lt h. absurd (omega arith) }

less : {A : Type 0} (k : ℕ) (a b : Grammar A) → Under (suc k) a b → Under k a b
less k a b p = record { whole = λ ts lt x w. p.whole ts (omega arith) x w; begins = λ ts lt h. p.begins ts (omega arith) h }

-- ---- the same of forms

abbrev pub Like : {A : Type 0} → ℕ → Form A → Form A → Type 0
Like k a b = Under k a.grammar b.grammar

token_solid : (f : Token → Bool) → Solid (token f)
token_solid f u x w = omega (arith, ap length w.0)

symbol_solid : (s : Symbol) → Solid (P.symbol s).grammar
symbol_solid s u x w = token_solid (is_symbol s) u w.0 w.1

keyword_solid : (k : Keyword) → Solid (P.keyword k).grammar
keyword_solid k u x w = token_solid (is_keyword k) u w.0 w.1

begins_nothing : {A : Type 0} (f : Form A) → IsExact f → f.grammar.begins []
begins_nothing f ok = by_reading (f.parse []) (ok.sound [])
  where
    by_reading : (r : Reading _) → Fitting f.grammar [] r → f.grammar.begins []
    by_reading (Read a left) s = subst f.grammar.begins (nil_left s.0 left (sym s.1)) (ok.within s.0 a s.2)
    by_reading (Stuck left) s = subst f.grammar.begins (nil_left s.0 left (sym s.1)) s.2

row_like : (k n : ℕ) (b : Bool) (u v : Form Expr) → Like k u v → Like k (P.row_of b n u) (P.row_of b n v)
row_like k n true u v h = under_value k _ _ _ (under_pair k _ _ _ _ h (under_optional k _ _ (under_pair k _ _ _ _ (same k _) h)))
row_like k n false u v h = under_value k _ _ _ (under_pair k _ _ _ _ h (under_many k _ _ (under_pair k _ _ _ _ (same k _) h)))

level_like : (k n : ℕ) (u v : Form Expr) → Like k u v → Like k (P.level n u) (P.level n v)
level_like k zero u v h = h
level_like k (suc n) u v h = row_like k (suc n) (nat_eq n 4) (P.level n u) (P.level n v) (level_like k n u v h)

brackets_like : {A : Type 0} (k : ℕ) (o c : Symbol) (a b : Form A) → Like k a b → Like (suc k) (P.brackets o a c) (P.brackets o b c)
brackets_like k o c a b h = under_value (suc k) _ _ _ (under_after k _ _ _ (symbol_solid o) (under_pair k _ _ _ _ h (same k _)))

use_like : (k : ℕ) (e f : Form Expr) → Like k e f → Like (suc k) (P.use_over e) (P.use_over f)
use_like k e f h = under_value (suc k) _ _ _ (under_pair (suc k) _ _ _ _ (same (suc k) _) (under_optional (suc k) _ _ (brackets_like k S.OpenSquare S.CloseSquare e f h)))

atom_like : (k : ℕ) (e f : Form Expr) → Like k e f → Like (suc k) (P.atom_over e) (P.atom_over f)
atom_like k e f h =
    under_either (suc k) _ _ _ _ (same (suc k) _)
    (under_either (suc k) _ _ _ _ (same (suc k) _)
    (under_either (suc k) _ _ _ _ (same (suc k) _)
    (under_either (suc k) _ _ _ _ (under_value (suc k) _ _ _ (under_pair (suc k) _ _ _ _ (same (suc k) _) (under_optional (suc k) _ _ (under_pair (suc k) _ _ _ _ (same (suc k) _) (use_like k e f h)))))
    (under_either (suc k) _ _ _ _ (under_value (suc k) _ _ _ (under_pair (suc k) _ _ _ _ (same (suc k) _) (under_pair (suc k) _ _ _ _ (same (suc k) _) (use_like k e f h))))
    (under_either (suc k) _ _ _ _
    (under_value (suc k) _ _ _ (under_after k _ _ _ (keyword_solid W.At) (under_pair k _ _ _ _ (same k _) (under_pair k _ _ _ _ h (under_pair k _ _ _ _ (same k _) (under_pair k _ _ _ _ h (same k _)))))))
    (brackets_like k S.OpenRound S.CloseRound e f h))))))

unary_over_like : (k : ℕ) (u v : Form Expr) → Like k u v → Like (suc k) (P.unary_over u) (P.unary_over v)
unary_over_like k u v h =
    under_either (suc k) _ _ _ _ (under_value (suc k) _ _ _ (under_after k _ _ _ (symbol_solid S.Bang) h))
    (under_either (suc k) _ _ _ _ (under_value (suc k) _ _ _ (under_after k _ _ _ (symbol_solid S.Tilde) h))
    (atom_like k (P.expr_over u) (P.expr_over v) (level_like k 7 u v h)))

unary_like : (k n : ℕ) → Like k (P.unary n) (P.unary k)
unary_like zero n = under_zero _ _
unary_like (suc k) zero = under_nothing (suc k) _ (begins_nothing (P.unary (suc k)) (unary_ok (suc k)))
unary_like (suc k) (suc n) = unary_over_like k (P.unary n) (P.unary k) (unary_like k n)

expr_like : (k n : ℕ) → Like k (P.expr n) (P.expr k)
expr_like k n = level_like k 7 (P.unary n) (P.unary k) (unary_like k n)

stmt_like : (k : ℕ) (e f : Form Expr) (a b : Form Block) → Like k e f → Like k a b → Like k (P.stmt_over e a) (P.stmt_over f b)
stmt_like k e f a b h g =
    under_either k _ _ _ _ (under_value k _ _ _ (under_pair k _ _ _ _ (same k _) (under_pair k _ _ _ _ (same k _) assign)))
    (under_either k _ _ _ _ (under_value k _ _ _ (under_pair k _ _ _ _ (same k _) assign))
    (under_either k _ _ _ _ (under_value k _ _ _ (target W.Pad))
    (under_either k _ _ _ _ (under_value k _ _ _ (target W.Cur))
    (under_either k _ _ _ _ (under_value k _ _ _ (under_pair k _ _ _ _ (same k _) (under_pair k _ _ _ _ h (under_pair k _ _ _ _ g (under_optional k _ _ (under_value k _ _ _ (under_pair k _ _ _ _ (same k _) g)))))))
    (under_either k _ _ _ _
    (under_value k _ _ _ (under_pair k _ _ _ _ (same k _) (under_pair k _ _ _ _ (same k _) (under_pair k _ _ _ _ (same k _) (under_pair k _ _ _ _ (same k _) (under_pair k _ _ _ _ (same k _) (under_pair k _ _ _ _ (same k _) g)))))))
    (under_either k _ _ _ _ (same k _)
    (under_value k _ _ _ (under_pair k _ _ _ _ (same k _) end))))))))
  where
    end : Under k (both e (P.symbol S.Semicolon)).grammar (both f (P.symbol S.Semicolon)).grammar
    end = under_pair k _ _ _ _ h (same k _)

    assign : Under k (both (P.symbol S.Assign) (both e (P.symbol S.Semicolon))).grammar (both (P.symbol S.Assign) (both f (P.symbol S.Semicolon))).grammar
    assign = under_pair k _ _ _ _ (same k _) end

    target : (w : Keyword) → Under k (P.target_over w e).grammar (P.target_over w f).grammar
    target w = under_value k _ _ _ (under_pair k _ _ _ _ (same k _) (under_pair k _ _ _ _ (same k _) (under_pair k _ _ _ _ (less k _ _ (use_like k e f h)) assign)))

block_like : (k n : ℕ) → Like k (P.block n) (P.block k)
block_like zero n = under_zero _ _
block_like (suc k) zero = under_nothing (suc k) _ (begins_nothing (P.block (suc k)) (block_ok (suc k)))
block_like (suc k) (suc n) =
    under_value (suc k) _ _ _ (under_after k _ _ _ (symbol_solid S.OpenBrace)
    (under_pair k _ _ _ _ (under_many k _ _ (stmt_like k (P.expr n) (P.expr k) (P.block n) (P.block k) (expr_like k n) (block_like k n))) (same k _)))

-- a program of fewer than k tokens stands as deep as k
pub program_like : (k n : ℕ) → Like k (P.program n) (P.program k)
program_like k n = under_value k _ _ _ (under_many k _ _ (under_either k _ _ _ _ (same k _) (under_value k _ _ _ (under_value k _ _ _ (step (step (step (step (step (step (step (step (step (block_first (step (block_first (step (block_first (same k _)))))))))))))))))))
  where
    step : {A B : Type 0} {a : Grammar A} {c d : Grammar B} → Under k c d → Under k (pair a c) (pair a d)
    step h = under_pair k _ _ _ _ (same k _) h

    block_first : {B : Type 0} {c d : Grammar B} → Under k c d → Under k (pair (P.block n).grammar c) (pair (P.block k).grammar d)
    block_first h = under_pair k _ _ _ _ (block_like k n) h
