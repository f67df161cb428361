-- The nodes of expressions and statements, counted up to 2,001.
use Rattle.std.specs.Prelude.{ℕ, ◌+◌, ◌-◌, ◌*◌, min}
use Rattle.iter_syntax.specs.Tree.{Ex, Sts}
use Rattle.iter_syntax.specs.Tree as t

abbrev pub up_to : ℕ → ℕ
up_to n = min n 2001

-- so many nodes, and those of an expression
abbrev pub count_expr : ℕ → Ex → ℕ
count_expr n (t.not p e) = count_expr (up_to (n + 1)) e
count_expr n (t.flip p e) = count_expr (up_to (n + 1)) e
count_expr n (t.bin p o a b) = count_expr (count_expr (up_to (n + 1)) a) b
count_expr n (t.at p a b) = count_expr (count_expr (up_to (n + 1)) a) b
count_expr n e = up_to (n + 1)

abbrev pub count : ℕ → Sts → ℕ
count n t.end = n
count n (t.bind p w e rest) = count (count_expr (up_to (n + 1)) e) rest
count n (t.set p w e rest) = count (count_expr (up_to (n + 1)) e) rest
count n (t.set_pad p w e rest) = count (count_expr (up_to (n + 1)) e) rest
count n (t.set_pad_item p w i e rest) = count (count_expr (up_to (n + 1)) e) rest
count n (t.set_cur p w e rest) = count (count_expr (up_to (n + 1)) e) rest
count n (t.set_cur_item p w i e rest) = count (count_expr (up_to (n + 1)) e) rest
count n (t.when p c first rest) = count (count (count_expr (up_to (n + 1)) c) first) rest
count n (t.choose p c first other rest) = count (count (count (count_expr (up_to (n + 1)) c) first) other) rest
count n (t.loop p w first past body rest) = count (up_to (up_to (n + 1) + up_to (past - first) * count 0 body)) rest
count n (t.done p rest) = count (up_to (n + 1)) rest
count n (t.go p e rest) = count (count_expr (up_to (n + 1)) e) rest
