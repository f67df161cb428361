-- What straight code may name, how deep its expressions are, and how many nodes it has.
use Rattle.std.specs.Prelude.{ℕ, ◌+◌, ◌<◌, ◌≤◌, max, ⊤}
use Rattle.iter_check.specs.Layout.{width_bytes}
use Rattle.iter_unroll.specs.declared.tree.Flat.{Flat}
use Rattle.iter_unroll.specs.Flat.{Fx, Fs}
use Rattle.iter_unroll.specs.Flat as f

-- what is there to name: so many arguments, and so many bytes of the record and of the pad
pub record Reach : Type 0 where
  pub args : ℕ
  pub record_size : ℕ
  pub pad_size : ℕ

-- init has no record, and end and next have no arguments
abbrev pub init_reach : Flat → Reach
init_reach flat = record { args = flat.args; record_size = 0; pad_size = flat.pad_size }

abbrev pub body_reach : Flat → Reach
body_reach flat = record { args = 0; record_size = flat.record_size; pad_size = flat.pad_size }

-- an expression names what is there, and slots below 8; `cur` is named only where there is a record
abbrev pub InReach : Reach → Fx → Type 0
InReach r (f.num n) = ⊤
InReach r f.null = ⊤
InReach r (f.arg k) = k < r.args
InReach r (f.slot k) = k < 8
InReach r f.cur = 1 ≤ r.record_size
InReach r (f.cur_field o w) = o + width_bytes w ≤ r.record_size
InReach r (f.pad_field o w) = o + width_bytes w ≤ r.pad_size
InReach r (f.not e) = InReach r e
InReach r (f.flip e) = InReach r e
InReach r (f.bin o a b) = InReach r a × InReach r b
InReach r (f.at a b) = InReach r a × InReach r b

abbrev pub depth : Fx → ℕ
depth (f.not e) = 1 + depth e
depth (f.flip e) = 1 + depth e
depth (f.bin o a b) = 1 + max (depth a) (depth b)
depth (f.at a b) = 1 + max (depth a) (depth b)
depth e = 1

-- a whole expression of a statement
abbrev pub Whole : Reach → Fx → Type 0
Whole r e = InReach r e × (depth e ≤ 7)

-- statements keep to what is there, also where they are not reached
abbrev pub Keeps : Reach → Fs → Type 0
Keeps r f.end = ⊤
Keeps r (f.put_slot k e rest) = (k < 8) × Whole r e × Keeps r rest
Keeps r (f.put_pad o w e rest) = (o + width_bytes w ≤ r.pad_size) × Whole r e × Keeps r rest
Keeps r (f.put_cur o w e rest) = (o + width_bytes w ≤ r.record_size) × Whole r e × Keeps r rest
Keeps r (f.choose e first other rest) = Whole r e × Keeps r first × Keeps r other × Keeps r rest
Keeps r (f.done rest) = Keeps r rest
Keeps r (f.go e rest) = Whole r e × Keeps r rest

-- the nodes of an expression
abbrev pub fx_nodes : Fx → ℕ
fx_nodes (f.not e) = 1 + fx_nodes e
fx_nodes (f.flip e) = 1 + fx_nodes e
fx_nodes (f.bin o a b) = 1 + fx_nodes a + fx_nodes b
fx_nodes (f.at a b) = 1 + fx_nodes a + fx_nodes b
fx_nodes e = 1

-- the nodes of statements: each is one more than its parts
abbrev pub fs_nodes : Fs → ℕ
fs_nodes f.end = 0
fs_nodes (f.put_slot k e rest) = 1 + fx_nodes e + fs_nodes rest
fs_nodes (f.put_pad o w e rest) = 1 + fx_nodes e + fs_nodes rest
fs_nodes (f.put_cur o w e rest) = 1 + fx_nodes e + fs_nodes rest
fs_nodes (f.choose e first other rest) = 1 + fx_nodes e + fs_nodes first + fs_nodes other + fs_nodes rest
fs_nodes (f.done rest) = 1 + fs_nodes rest
fs_nodes (f.go e rest) = 1 + fx_nodes e + fs_nodes rest
