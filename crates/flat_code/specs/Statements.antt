-- The instructions of statements, from a place on, and how many they are.
use Rattle.std.specs.Prelude.{ℕ, zero, suc, ◌+◌, Bool, true, false, ◌&&◌, ◌||◌, List, [], ◌∷◌, ◌++◌}
use Rattle.pulse_isa.specs.declared.instr.Instr.{Instr}
use Rattle.pulse_isa.specs.declared.instr.Instr.TheVariants.{PutW, PutP, Jmp, Return, NextIter}
use Rattle.iter_check.specs.Layout.{width_bytes}
use Rattle.iter_unroll.specs.Flat.{Fs}
use Rattle.iter_unroll.specs.Flat as x
use Rattle.flat_code.specs.Code.{Code, code_of, operand, operand_code, operand_len}

-- the statements end the iteration, on each of their ways
abbrev pub leaves : Fs → Bool
leaves x.end = false
leaves (x.put_slot k e rest) = leaves rest
leaves (x.put_pad o w e rest) = leaves rest
leaves (x.put_cur o w e rest) = leaves rest
leaves (x.choose e first other rest) = (leaves first && leaves other) || leaves rest
leaves (x.done rest) = true
leaves (x.go e rest) = true

-- a jump over the n instructions of an `else` to `out`; there is none where nothing comes there or nothing is passed over
abbrev pub over : Bool → ℕ → ℕ → List Instr
over true n out = []
over false zero out = []
over false (suc n) out = Jmp out ∷ []

abbrev pub over_len : Bool → ℕ → ℕ
over_len true n = 0
over_len false zero = 0
over_len false (suc n) = 1

abbrev pub sts_len : Fs → ℕ
sts_len x.end = 0
sts_len (x.put_slot k e rest) = (code_of e).slot_len + sts_len rest
sts_len (x.put_pad o w e rest) = operand_len (code_of e) + 1 + sts_len rest
sts_len (x.put_cur o w e rest) = operand_len (code_of e) + 1 + sts_len rest
sts_len (x.choose e first other rest) =
    (code_of e).branch_len + sts_len first + over_len (leaves first) (sts_len other) + sts_len other + sts_len rest
sts_len (x.done rest) = 1 + sts_len rest
sts_len (x.go e rest) = operand_len (code_of e) + 1 + sts_len rest

-- an operand, and an instruction that takes it
abbrev pub taken : Code → (ℕ → Instr) → ℕ → List Instr → List Instr
taken c i here rest = operand_code c 8 here ++ i (operand c.home 8) ∷ rest

abbrev pub sts_code : Fs → ℕ → List Instr
sts_code x.end here = []
sts_code (x.put_slot k e rest) here = (code_of e).value k 8 here ++ sts_code rest (here + (code_of e).slot_len)
sts_code (x.put_pad o w e rest) here = taken (code_of e) (λ r. PutP r (width_bytes w) o) here (sts_code rest (here + operand_len (code_of e) + 1))
sts_code (x.put_cur o w e rest) here = taken (code_of e) (λ r. PutW r (width_bytes w) o) here (sts_code rest (here + operand_len (code_of e) + 1))
sts_code (x.choose e first other rest) here =
    let c = code_of e in
    let h1 = here + c.branch_len in
    let h2 = h1 + sts_len first in
    let h3 = h2 + over_len (leaves first) (sts_len other) in
    let out = h3 + sts_len other in
    c.branch false h3 8 here ++ (sts_code first h1 ++ (over (leaves first) (sts_len other) out ++ (sts_code other h3 ++ sts_code rest out)))
sts_code (x.done rest) here = Return ∷ sts_code rest (here + 1)
sts_code (x.go e rest) here = taken (code_of e) NextIter here (sts_code rest (here + operand_len (code_of e) + 1))
