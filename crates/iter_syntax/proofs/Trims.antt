-- What taking needless parentheses away does to tokens: they stay spelled, and become nowhere deeper.
pub mod Scan
pub mod Pieces
pub mod Level
pub mod Expr
pub mod Stmt
pub mod Decl
use Rattle.std.proofs.Common.{◌≡◌, ℕ, ◌+◌, ◌-◌, ◌≤◌, Bool, true, false, ◌||◌, nat_lt, cond, List, [], ◌∷◌, ◌++◌, Option, Some, None, refl, ap, ap₂, ◌∙◌, subst, sym as flip, ltb-false, le-ltb, arith}
use Rattle.iter_syntax.specs.Names.{Token, TokenKind, Symbol}
use Rattle.iter_syntax.specs.declared.token.Symbol.TheVariants as S
use Rattle.iter_syntax.specs.Deep.{depth_after, ends_stretch, deep_from}
use Rattle.iter_syntax.specs.Printed.{Kinds, between, sym}
use Rattle.iter_syntax.proofs.TokenKinds.{kinds, AllSpelled, spelled-append, spelled-front, spelled-back}
use Rattle.iter_syntax.proofs.Trims.Scan.{scan, Closed, Ended, scan_join, scan_split, scan_less, inside, round}

-- not deeper from the same on, with no more tokens of the stretch behind them
abbrev pub NoDeeper : Kinds → Kinds → Type 0
NoDeeper us ts = (n m : ℕ) (r : ℕ × ℕ) → scan n m ts ≡ Some r → (b : ℕ) × (scan n m us ≡ Some (r.0, b)) × (b ≤ r.1)

-- `us` are `ts` without some parentheses
pub record Trims (us ts : Kinds) : Type 0 where
  pub spelled : AllSpelled ts → AllSpelled us
  pub no_deeper : NoDeeper us ts

pub trims_same : (ks : Kinds) → Trims ks ks
trims_same ks = record { spelled = λ h. h; no_deeper = λ n m r e. (r.1, e, omega arith) }

pub trims_join : (a b c d : Kinds) → Trims a b → Trims c d → Trims (a ++ c) (b ++ d)
trims_join a b c d h g = record {
  spelled = λ s. spelled-append a c (h.spelled (spelled-front b d s)) (g.spelled (spelled-back b d s));
  no_deeper = deeper;
}
  where
    deeper : NoDeeper (a ++ c) (b ++ d)
    deeper n m r e =
        let p = scan_split b d n m r e in
        let q = h.no_deeper n m p.0 p.1 in
        let s = scan_less d p.0.0 p.0.1 q.0 r p.2 q.2 in
        let t = g.no_deeper p.0.0 q.0 (r.0, s.0) s.1 in
        (t.0, scan_join a c n m (p.0.0, q.0) (r.0, t.0) q.1 t.1, omega (arith, t.2, s.2))

pub trims_bare : (a b : Kinds) → Closed b → Trims a b → Trims a (between S.OpenRound b S.CloseRound)
trims_bare a b h g = record {
  spelled = λ s. g.spelled (spelled-front b (sym S.CloseRound ∷ []) s.1);
  no_deeper = deeper;
}
  where
    deeper : NoDeeper a (between S.OpenRound b S.CloseRound)
    deeper n m r e =
        let p = inside S.OpenRound S.CloseRound round b h n m r e in
        let q = h.shallower n (m + 1) (n + 1, p.0) p.1.inner in
        let s = scan_less b n (m + 1) m (n, p.0) q (omega arith) in
        let t = g.no_deeper n m (n, s.0) s.1 in
        let depth : n ≡ r.0 = ap (λ z. z.0) (flip p.2) in
        let stretch : r.1 ≡ p.0 + 1 = ap (λ z. z.1) p.2 in
        (t.0, t.1 ∙ ap (λ z. Some (z, t.0)) depth, omega (arith, t.2, s.2, stretch))
