-- The nodes of expressions and statements: a number that is computed from the bounds of loops.
use Rattle.std.specs.Prelude.{ℕ, ◌+◌, ◌-◌, ◌*◌}
use Rattle.iter_syntax.specs.Tree.{Ex, Sts}
use Rattle.iter_syntax.specs.Tree as t

-- an index adds nothing
abbrev pub expr_nodes : Ex → ℕ
expr_nodes (t.not p e) = 1 + expr_nodes e
expr_nodes (t.flip p e) = 1 + expr_nodes e
expr_nodes (t.bin p o a b) = 1 + expr_nodes a + expr_nodes b
expr_nodes (t.at p a b) = 1 + expr_nodes a + expr_nodes b
expr_nodes e = 1

-- a `for` is 1 and its turns times the nodes of its block
abbrev pub nodes : Sts → ℕ
nodes t.end = 0
nodes (t.bind p w e rest) = 1 + expr_nodes e + nodes rest
nodes (t.set p w e rest) = 1 + expr_nodes e + nodes rest
nodes (t.set_pad p w e rest) = 1 + expr_nodes e + nodes rest
nodes (t.set_pad_item p w i e rest) = 1 + expr_nodes e + nodes rest
nodes (t.set_cur p w e rest) = 1 + expr_nodes e + nodes rest
nodes (t.set_cur_item p w i e rest) = 1 + expr_nodes e + nodes rest
nodes (t.when p c first rest) = 1 + expr_nodes c + nodes first + nodes rest
nodes (t.choose p c first other rest) = 1 + expr_nodes c + nodes first + nodes other + nodes rest
nodes (t.loop p w first past body rest) = 1 + (past - first) * nodes body + nodes rest
nodes (t.done p rest) = 1 + nodes rest
nodes (t.go p e rest) = 1 + expr_nodes e + nodes rest
