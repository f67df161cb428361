-- The records of lists and of buckets: a key, a value and the address of the next record, or 0.
use Rattle.std.specs.Prelude.{ℕ, zero, suc, ◌+◌, ◌*◌, ◌%◌, List, ◌++◌, replicate, nat_lt, slice_set, slice_index_or, if◌then◌else◌}
use Rattle.shape_build.specs.declared.text.Cut.{Cut}
use Rattle.shape_build.specs.Draws.{draw}
use Rattle.shape_build.specs.Text.{below, word, part_size, before_record, region_end}

unfoldable pub record_text : (key value next : ℕ) → List ℕ
record_text key value next = word key ++ word value ++ word next

-- ---- a list: its records in the order of their addresses, in four parts

abbrev pub list_address : ℕ → ℕ
list_address i = 65536 + 24 * i

abbrev pub list_cut : ℕ → Cut
list_cut n = record { size = part_size n 4; base = 65536; width = 24; node = 0 }

abbrev pub list_record : (n seed i : ℕ) → List ℕ
list_record n seed i = record_text (2 * i + 1) (draw seed i) (if nat_lt (i + 1) n then list_address (i + 1) else 0)

unfoldable pub list_rows : (n seed : ℕ) → List ℕ
list_rows n seed = below n (λ i. before_record (list_cut n) i ++ list_record n seed i) ++ region_end

-- ---- 64 heads, each the head of a chain of records, as one region; and the records in three parts

abbrev pub chain_of : ℕ → ℕ
chain_of i = (i + 1) % 64

abbrev pub chained_address : ℕ → ℕ
chained_address i = 67072 + 24 * i

-- where each chain begins after so many records: each record becomes the first of its chain
unfoldable pub firsts : ℕ → List ℕ
firsts zero = replicate 64 0
firsts (suc i) = slice_set (firsts i) (chain_of i) (chained_address i)

abbrev pub heads_cut : Cut
heads_cut = record { size = 64; base = 65536; width = 24; node = 0 }

unfoldable pub head_rows : (n : ℕ) → List ℕ
head_rows n = below 64 (λ j. before_record heads_cut j ++ record_text 0 0 (slice_index_or (firsts n) j 0)) ++ region_end

abbrev pub chained_cut : ℕ → Cut
chained_cut n = record { size = part_size n 3; base = 67072; width = 24; node = 1 }

-- its next is the record that was the first of its chain
abbrev pub chained_record : (seed i : ℕ) → List ℕ
chained_record seed i = record_text (i + 1) (draw seed i) (slice_index_or (firsts i) (chain_of i) 0)

unfoldable pub chained_rows : (n seed : ℕ) → List ℕ
chained_rows n seed = below n (λ i. before_record (chained_cut n) i ++ chained_record seed i) ++ region_end
