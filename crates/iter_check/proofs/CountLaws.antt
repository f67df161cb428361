-- The count of nodes up to 2,001 is the number of nodes, up to 2,001.
use Rattle.std.proofs.Common.{◌≡◌, ℕ, zero, suc, ◌+◌, ◌-◌, ◌*◌, ◌≤◌, ◌<◌, ◌⊎◌, inl, inr, mul-suc, Option, Some, None, refl, sym, ap, ◌∙◌, arith}
use Rattle.std.proofs.Math.Nat.{mul_comm, mul-zero}
use Rattle.std.proofs.lemmas.Bool.{cases_lt}
use Rattle.iter_syntax.specs.declared.tree.Place.{Place}
use Rattle.iter_syntax.specs.declared.tree.Word.{Word}
use Rattle.iter_syntax.specs.Tree.{Ex, Sts, to_pad, to_cur}
use Rattle.iter_syntax.specs.Tree as t
use Rattle.iter_check.specs.Nodes.{expr_nodes, nodes}
use Rattle.iter_check.specs.First.Count.{up_to, count_expr, count}

pub count_pad_is : (n : ℕ) (p : Place) (w : Word) (o : Option Ex) (e : Ex) (rest : Sts) → count n (to_pad p w o e rest) ≡ count (count_expr (up_to (n + 1)) e) rest
count_pad_is n p w None e rest = refl
count_pad_is n p w (Some i) e rest = refl

pub count_cur_is : (n : ℕ) (p : Place) (w : Word) (o : Option Ex) (e : Ex) (rest : Sts) → count n (to_cur p w o e rest) ≡ count (count_expr (up_to (n + 1)) e) rest
count_cur_is n p w None e rest = refl
count_cur_is n p w (Some i) e rest = refl

more : (k m : ℕ) → up_to (up_to k + m) ≡ up_to (k + m)
more k m = omega arith

-- one node, and then the parts
one_part : (k : ℕ) (e : Ex) → count_expr (up_to (k + 1)) e ≡ up_to (k + 1 + expr_nodes e) → count_expr (up_to (up_to k + 1)) e ≡ up_to (k + (1 + expr_nodes e))
one_part k e h =
    let z : k + 1 + expr_nodes e ≡ k + (1 + expr_nodes e) = omega arith in
    ap (λ n. count_expr n e) (more k 1) ∙ h ∙ ap up_to z

two_parts : (k : ℕ) (a b : Ex) → count_expr (up_to (k + 1)) a ≡ up_to (k + 1 + expr_nodes a) → count_expr (up_to (k + 1 + expr_nodes a)) b ≡ up_to (k + 1 + expr_nodes a + expr_nodes b)
    → count_expr (count_expr (up_to (up_to k + 1)) a) b ≡ up_to (k + (1 + expr_nodes a + expr_nodes b))
two_parts k a b h j =
    let z : k + 1 + expr_nodes a + expr_nodes b ≡ k + (1 + expr_nodes a + expr_nodes b) = omega arith in
    ap (λ n. count_expr (count_expr n a) b) (more k 1) ∙ ap (λ n. count_expr n b) h ∙ j ∙ ap up_to z

pub count_expr_is : (k : ℕ) (e : Ex) → count_expr (up_to k) e ≡ up_to (k + expr_nodes e)
count_expr_is k (t.num p n) = more k 1
count_expr_is k (t.null p) = more k 1
count_expr_is k (t.name w) = more k 1
count_expr_is k (t.cur p) = more k 1
count_expr_is k (t.cur_field p w) = more k 1
count_expr_is k (t.cur_item p w i) = more k 1
count_expr_is k (t.pad_field p w) = more k 1
count_expr_is k (t.pad_item p w i) = more k 1
count_expr_is k (t.not p e) = one_part k e (count_expr_is (k + 1) e)
count_expr_is k (t.flip p e) = one_part k e (count_expr_is (k + 1) e)
count_expr_is k (t.bin p o a b) = two_parts k a b (count_expr_is (k + 1) a) (count_expr_is (k + 1 + expr_nodes a) b)
count_expr_is k (t.at p a b) = two_parts k a b (count_expr_is (k + 1) a) (count_expr_is (k + 1 + expr_nodes a) b)

-- more turns or more nodes than the cap are as good as the cap
big : (n m : ℕ) → 2001 ≤ n → 1 ≤ m → 2001 ≤ n * m
big n zero h k = absurd (omega arith)
big n (suc m) h k = omega (arith, mul-suc n m)

past_cap : (a p q : ℕ) → 2001 ≤ p → 2001 ≤ q → up_to (a + p) ≡ up_to (a + q)
past_cap a p q h k = omega arith

times_big : (a n m : ℕ) → 2001 ≤ n → 1 ≤ m → up_to (a + up_to n * up_to m) ≡ up_to (a + n * m)
times_big a n m h k = past_cap a (up_to n * up_to m) (n * m) (big (up_to n) (up_to m) (omega arith) (omega arith)) (big n m h k)

times_by : (a n m : ℕ) → (n < 2001) ⊎ (2001 ≤ n) → (m < 2001) ⊎ (2001 ≤ m) → 1 ≤ n → 1 ≤ m → up_to (a + up_to n * up_to m) ≡ up_to (a + n * m)
times_by a n m (inl x) (inl y) p q =
    let u : up_to n ≡ n = omega arith in
    let v : up_to m ≡ m = omega arith in
    ap (λ z. up_to (a + z * up_to m)) u ∙ ap (λ z. up_to (a + n * z)) v
times_by a n m (inl x) (inr y) p q =
    ap (λ z. up_to (a + z)) (mul_comm (up_to n) (up_to m)) ∙ times_big a m n y p ∙ ap (λ z. up_to (a + z)) (mul_comm m n)
times_by a n m (inr x) y p q = times_big a n m x q

times : (a n m : ℕ) → up_to (a + up_to n * up_to m) ≡ up_to (a + n * m)
times a n zero = ap (λ z. up_to (a + z)) (mul-zero (up_to n) ∙ sym (mul-zero n))
times a zero (suc m) = ap (λ z. up_to (a + z)) (mul_comm 0 (up_to (suc m)) ∙ mul-zero (up_to (suc m)) ∙ sym (mul_comm 0 (suc m) ∙ mul-zero (suc m)))
times a (suc n) (suc m) = times_by a (suc n) (suc m) (cases_lt (suc n) 2001) (cases_lt (suc m) 2001) (omega arith) (omega arith)

-- one node, an expression, and the rest
then_rest : (k : ℕ) (e : Ex) (rest : Sts) → count (up_to (k + (1 + expr_nodes e))) rest ≡ up_to (k + (1 + expr_nodes e) + nodes rest) → count (count_expr (up_to (up_to k + 1)) e) rest ≡ up_to (k + (1 + expr_nodes e + nodes rest))
then_rest k e rest h =
    let z : k + (1 + expr_nodes e) + nodes rest ≡ k + (1 + expr_nodes e + nodes rest) = omega arith in
    ap (λ n. count n rest) (one_part k e (count_expr_is (k + 1) e)) ∙ h ∙ ap up_to z

pub count_is : (k : ℕ) (ss : Sts) → count (up_to k) ss ≡ up_to (k + nodes ss)
count_is k t.end = ap up_to (omega arith)
count_is k (t.bind p w e rest) = then_rest k e rest (count_is (k + (1 + expr_nodes e)) rest)
count_is k (t.set p w e rest) = then_rest k e rest (count_is (k + (1 + expr_nodes e)) rest)
count_is k (t.set_pad p w e rest) = then_rest k e rest (count_is (k + (1 + expr_nodes e)) rest)
count_is k (t.set_pad_item p w i e rest) = then_rest k e rest (count_is (k + (1 + expr_nodes e)) rest)
count_is k (t.set_cur p w e rest) = then_rest k e rest (count_is (k + (1 + expr_nodes e)) rest)
count_is k (t.set_cur_item p w i e rest) = then_rest k e rest (count_is (k + (1 + expr_nodes e)) rest)
count_is k (t.when p c first rest) =
    let a = k + (1 + expr_nodes c) in
    let z : a + nodes first + nodes rest ≡ k + (1 + expr_nodes c + nodes first + nodes rest) = omega arith in
    ap (λ n. count (count n first) rest) (one_part k c (count_expr_is (k + 1) c)) ∙ ap (λ n. count n rest) (count_is a first) ∙ count_is (a + nodes first) rest ∙ ap up_to z
count_is k (t.choose p c first other rest) =
    let a = k + (1 + expr_nodes c) in
    let b = a + nodes first in
    let z : b + nodes other + nodes rest ≡ k + (1 + expr_nodes c + nodes first + nodes other + nodes rest) = omega arith in
    ap (λ n. count (count (count n first) other) rest) (one_part k c (count_expr_is (k + 1) c))
    ∙ ap (λ n. count (count n other) rest) (count_is a first) ∙ ap (λ n. count n rest) (count_is b other) ∙ count_is (b + nodes other) rest ∙ ap up_to z
count_is k (t.loop p w first past body rest) =
    let a = k + 1 + (past - first) * nodes body in
    let z : a + nodes rest ≡ k + (1 + (past - first) * nodes body + nodes rest) = omega arith in
    let zero_more : 0 + nodes body ≡ nodes body = omega arith in
    ap (λ n. count (up_to (up_to (up_to k + 1) + up_to (past - first) * n)) rest) (count_is 0 body ∙ ap up_to zero_more)
    ∙ ap (λ n. count n rest) (times (up_to (up_to k + 1)) (past - first) (nodes body) ∙ ap (λ n. up_to (n + (past - first) * nodes body)) (more k 1) ∙ more (k + 1) ((past - first) * nodes body))
    ∙ count_is a rest ∙ ap up_to z
count_is k (t.done p rest) =
    let z : k + 1 + nodes rest ≡ k + (1 + nodes rest) = omega arith in
    ap (λ n. count n rest) (more k 1) ∙ count_is (k + 1) rest ∙ ap up_to z
count_is k (t.go p e rest) = then_rest k e rest (count_is (k + (1 + expr_nodes e)) rest)

-- the nodes of one block, and of two together
pub one_block : (ss : Sts) → count 0 ss ≡ up_to (nodes ss)
one_block ss =
    let none : up_to 0 ≡ 0 = omega arith in
    let z : 0 + nodes ss ≡ nodes ss = omega arith in
    ap (λ n. count n ss) (sym none) ∙ count_is 0 ss ∙ ap up_to z

pub two_blocks : (first second : Sts) → count (count 0 first) second ≡ up_to (nodes first + nodes second)
two_blocks first second = ap (λ n. count n second) (one_block first) ∙ count_is (nodes first) second
