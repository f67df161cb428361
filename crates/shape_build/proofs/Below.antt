-- The texts of the numbers below a count, one by one.
use Rattle.std.proofs.Common.{ℕ, ◌≡◌, ◌+◌, List, [], ◌++◌, refl, sym, ap, ◌∙◌, add-one, append_assoc, append-nil}
use Rattle.shape_build.specs.Text.{below}

below_none : (text : ℕ → List ℕ) → below 0 text ≡ []
unfolding below
below_none text = refl

below_next : (n : ℕ) (text : ℕ → List ℕ) → below (n + 1) text ≡ below n text ++ text n
unfolding below
below_next n text = rw (add-one) refl

-- before the first
pub begins : (old : List ℕ) (text : ℕ → List ℕ) → old ≡ old ++ below 0 text
begins old text = rw (below_none text) (sym (append-nil old))

-- one more
pub goes_on : (old now next : List ℕ) (n : ℕ) (text : ℕ → List ℕ) → now ≡ old ++ below n text → next ≡ now ++ text n → next ≡ old ++ below (n + 1) text
goes_on old now next n text came put = put ∙ ap (λ t. t ++ text n) came ∙ append_assoc old (below n text) (text n) ∙ ap (λ t. old ++ t) (sym (below_next n text))

-- behind the last
pub ends : (old now : List ℕ) (n m : ℕ) (text : ℕ → List ℕ) → now ≡ old ++ below n text → n ≡ m → now ≡ old ++ below m text
ends old now n m text came e = came ∙ ap (λ k. old ++ below k text) e

-- two texts
pub joined : (old now next : List ℕ) (first second : List ℕ) → now ≡ old ++ first → next ≡ now ++ second → next ≡ old ++ (first ++ second)
joined old now next first second p q = q ∙ ap (λ t. t ++ second) p ∙ append_assoc old first second

-- one more, put in two parts
pub goes_on_by_two : (old now mid next first second : List ℕ) (n : ℕ) (text : ℕ → List ℕ) →
    now ≡ old ++ below n text → mid ≡ now ++ first → next ≡ mid ++ second → text n ≡ first ++ second → next ≡ old ++ below (n + 1) text
goes_on_by_two old now mid next first second n text came p q e =
    goes_on old now next n text came (joined now mid next first second p q ∙ ap (λ t. now ++ t) (sym e))

pub joined_four : (t0 t1 t2 t3 t4 a b c d : List ℕ) → t1 ≡ t0 ++ a → t2 ≡ t1 ++ b → t3 ≡ t2 ++ c → t4 ≡ t3 ++ d → t4 ≡ t0 ++ (a ++ b ++ c ++ d)
joined_four t0 t1 t2 t3 t4 a b c d p0 p1 p2 p3 = joined t0 t3 t4 (a ++ b ++ c) d (joined t0 t2 t3 (a ++ b) c (joined t0 t1 t2 a b p0 p1) p2) p3

pub joined_five : (t0 t1 t2 t3 t4 t5 a b c d e : List ℕ) → t1 ≡ t0 ++ a → t2 ≡ t1 ++ b → t3 ≡ t2 ++ c → t4 ≡ t3 ++ d → t5 ≡ t4 ++ e → t5 ≡ t0 ++ (a ++ b ++ c ++ d ++ e)
joined_five t0 t1 t2 t3 t4 t5 a b c d e p0 p1 p2 p3 p4 = joined t0 t4 t5 (a ++ b ++ c ++ d) e (joined t0 t3 t4 (a ++ b ++ c) d (joined t0 t2 t3 (a ++ b) c (joined t0 t1 t2 a b p0 p1) p2) p3) p4

pub joined_six : (t0 t1 t2 t3 t4 t5 t6 a b c d e f : List ℕ) → t1 ≡ t0 ++ a → t2 ≡ t1 ++ b → t3 ≡ t2 ++ c → t4 ≡ t3 ++ d → t5 ≡ t4 ++ e → t6 ≡ t5 ++ f → t6 ≡ t0 ++ (a ++ b ++ c ++ d ++ e ++ f)
joined_six t0 t1 t2 t3 t4 t5 t6 a b c d e f p0 p1 p2 p3 p4 p5 = joined t0 t5 t6 (a ++ b ++ c ++ d ++ e) f (joined t0 t4 t5 (a ++ b ++ c ++ d) e (joined t0 t3 t4 (a ++ b ++ c) d (joined t0 t2 t3 (a ++ b) c (joined t0 t1 t2 a b p0 p1) p2) p3) p4) p5
