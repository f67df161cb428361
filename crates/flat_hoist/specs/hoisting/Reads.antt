-- How often code reads a field.
use Rattle.std.specs.Prelude.{ℕ, ◌+◌, ◌&&◌, not, Bool, true, false}
use Rattle.iter_unroll.specs.Flat.{Fx, Fs}
use Rattle.iter_unroll.specs.Flat as f
use Rattle.flat_hoist.specs.declared.field.Field.{Field}
use Rattle.flat_hoist.specs.hoisting.Fields.{has_bytes}

abbrev pub once : Bool → ℕ
once true = 1
once false = 0

abbrev pub reads : Field → Fx → ℕ
reads h (f.cur_field o w) = once (not h.pad && has_bytes h o w)
reads h (f.pad_field o w) = once (h.pad && has_bytes h o w)
reads h (f.not e) = reads h e
reads h (f.flip e) = reads h e
reads h (f.bin o a b) = reads h a + reads h b
reads h (f.at a b) = reads h a + reads h b
reads h e = 0

abbrev pub all_reads : Field → Fs → ℕ
all_reads h f.end = 0
all_reads h (f.put_slot k e rest) = reads h e + all_reads h rest
all_reads h (f.put_pad o w e rest) = reads h e + all_reads h rest
all_reads h (f.put_cur o w e rest) = reads h e + all_reads h rest
all_reads h (f.choose e first other rest) = reads h e + all_reads h first + all_reads h other + all_reads h rest
all_reads h (f.done rest) = all_reads h rest
all_reads h (f.go e rest) = reads h e + all_reads h rest
