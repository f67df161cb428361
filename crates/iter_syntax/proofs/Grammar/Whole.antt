-- From what the parser leaves of a whole token list to what is said of programs.
use Rattle.std.specs.Prelude.{slice_get}
use Rattle.std.proofs.Common.{◌≡◌, ℕ, ◌+◌, ◌<◌, ◌≤◌, zero, suc, [], ◌∷◌, ◌++◌, length, take, drop, Some, refl, sym, ap, ◌∙◌, subst, arith, length-append, length-drop}
use Rattle.std.proofs.lemmas.Grind.{common_steps}
use Rattle.iter_syntax.specs.Names.{Token, Program}
use Rattle.iter_syntax.specs.Steps.Parsers.{Read, Stuck}
use Rattle.iter_syntax.specs.Productions.{program}
use Rattle.iter_syntax.specs.Program.{IsProgram, StopsAt}
use Rattle.iter_syntax.proofs.Grammar.Splits.{Tokens}
use Rattle.iter_syntax.proofs.Grammar.Stops.{Stops, Answers, answers}
use Rattle.iter_syntax.proofs.Grammar.ExactDecl.{program_ok}
use Rattle.iter_syntax.proofs.Grammar.Deeper.{program_like}

front_is : (before rest : Tokens) → take (length before) (before ++ rest) ≡ before
front_is before rest = grind (arith, common_steps)

next_is : (ts : Tokens) (at : ℕ) (t : Token) → slice_get ts at ≡ Some t → (after : Tokens) × (drop at ts ≡ t ∷ after)
next_is [] at t h = absurd (cc)
next_is (x ∷ ts) zero t h = (ts, cc)
next_is (x ∷ ts) (suc at) t h = next_is ts at t h

module _ (ts : Tokens) where
  abbrev pub depth : ℕ
  depth = length ts + 1

  abbrev the_answer : Answers (program depth).grammar ts ((program depth).parse ts)
  the_answer = answers _ _ _ _ _ (program_ok depth) ts

  pub whole_is : (p : Program) → IsProgram ts p → (program depth).grammar.whole ts p
  whole_is p (n, w) = (program_like depth n).whole ts (omega arith) p w

  stops : (at : ℕ) → at ≤ length ts → Stops (program depth).grammar ts (drop at ts) → StopsAt ts at
  stops at le f =
      let n : length f.before ≡ at = omega (arith, ap length f.splits, length-append f.before (drop at ts), length-drop at ts) in
      let is : take at ts ≡ f.before = ap (λ l. take at l) f.splits ∙ ap (λ k. take k (f.before ++ drop at ts)) (sym n) ∙ front_is f.before (drop at ts) in
      record {
        inside = le;
        begins = (depth, subst (program depth).grammar.begins (sym is) f.begins);
        no_more = λ t h b. (
            let q = next_is ts at t h in
            let short : length (f.before ++ t ∷ []) < depth = omega (arith, length-append f.before (t ∷ []), ap length f.splits, length-append f.before (drop at ts), ap length q.1) in
            f.no_more t q.0 q.1 ((program_like depth b.0).begins (f.before ++ t ∷ []) short (subst (λ l. (program b.0).grammar.begins (l ++ t ∷ [])) is b.1)));
        no_program = λ p h. f.not_whole p (whole_is p h);
      }

  pub stop_is : (at : ℕ) → at ≤ length ts → (program depth).parse ts ≡ Stuck (drop at ts) → StopsAt ts at
  stop_is at le e = stops at le (subst (Answers (program depth).grammar ts) e the_answer)

  pub more_is : (at : ℕ) (p : Program) → at < length ts → (program depth).parse ts ≡ Read p (drop at ts) → StopsAt ts at
  more_is at p lt e = by_rest (drop at ts) refl (subst (Answers (program depth).grammar ts) e the_answer)
    where
      by_rest : (rest : Tokens) → drop at ts ≡ rest → Answers (program depth).grammar ts (Read p rest) → StopsAt ts at
      by_rest [] q h = absurd (omega (arith, ap length q, length-drop at ts))
      by_rest (t ∷ rest) q h = stops at (omega arith) (subst (λ l. Stops (program depth).grammar ts l) (sym q) h)

  pub program_is : (at : ℕ) (p : Program) → length ts ≤ at → (program depth).parse ts ≡ Read p (drop at ts) → IsProgram ts p × ((q : Program) → IsProgram ts q → q ≡ p)
  program_is at p le e =
      let q : drop at ts ≡ [] = grind (arith, common_steps) in
      let a = subst (Answers (program depth).grammar ts) (e ∙ ap (Read p) q) the_answer in
      ((depth, a.0), λ b w. a.1 b (whole_is b w))
