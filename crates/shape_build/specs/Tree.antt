-- The records of a tree: leaves of 15 keys, and levels that group the one below by 16, up to a single record.
use Rattle.std.specs.Prelude.{ℕ, zero, suc, ◌+◌, ◌-◌, ◌*◌, ◌/◌, List, [], ◌++◌, codes, min, nat_le, nat_lt, if◌then◌else◌}
use Rattle.shape_build.specs.declared.text.Cut.{Cut}
use Rattle.shape_build.specs.declared.tree.Level.{Level}
use Rattle.shape_build.specs.Draws.{draw}
use Rattle.shape_build.specs.Text.{below, word, short, byte, part_size, before_record, region_end}

-- the leaves
abbrev pub leaves : ℕ → Level
leaves n = record { first = 0; size = (n + 14) / 15; keys = 15 }

-- the level that groups another by 16
abbrev pub above : Level → Level
above l = record { first = l.first + l.size; size = (l.size + 15) / 16; keys = 16 * l.keys }

-- the last level, of one record: there are at most `most` above this one
unfoldable pub root : (most : ℕ) → Level → Level
root zero l = l
root (suc most) l = if nat_le l.size 1 then l else root most (above l)

-- records are numbered as they are made
abbrev pub tree_address : ℕ → ℕ
tree_address t = 65536 + 256 * t

abbrev pub root_number : ℕ → ℕ
root_number n = (root n (leaves n)).first

abbrev pub tree_cut : ℕ → Cut
tree_cut n = record { size = part_size (root_number n + 1) 4; base = 65536; width = 256; node = 0 }

-- ---- one record: its count, whether it is a leaf, 15 keys, 16 kids, and 5 bytes that are not used

abbrev pub filled : (count : ℕ) → (ℕ → ℕ) → ℕ → List ℕ
filled count value j = word (if nat_lt j count then value j else 0)

abbrev pub node_text : (count leaf kid_count : ℕ) (key kid : ℕ → ℕ) → List ℕ
node_text count leaf kid_count key kid =
    short count ++ byte leaf ++ below 15 (filled count key) ++ below 16 (filled kid_count kid) ++ codes "0000000000"

-- leaf l: the i-th key of all is 2 i + 1, and has the i-th draw as its kid
unfoldable pub leaf_text : (n seed l : ℕ) → List ℕ
leaf_text n seed l = node_text (min (n - 15 * l) 15) 1 (min (n - 15 * l) 15) (λ j. 2 * (15 * l + j) + 1) (λ j. draw seed (15 * l + j))

-- the g-th group of a level: the addresses of its records, and the least key under each but the first
unfoldable pub group_text : Level → (g : ℕ) → List ℕ
group_text l g = node_text (min (l.size - 16 * g) 16 - 1) 0 (min (l.size - 16 * g) 16) (λ j. 2 * (l.keys * (16 * g + j + 1)) + 1) (λ j. tree_address (l.first + 16 * g + j))

-- ---- all records

abbrev pub leaf_rows : (n seed : ℕ) → List ℕ
leaf_rows n seed = below (leaves n).size (λ l. before_record (tree_cut n) l ++ leaf_text n seed l)

-- the groups of a level
unfoldable pub group_rows : Cut → Level → List ℕ
group_rows cut l = below (above l).size (λ g. before_record cut ((above l).first + g) ++ group_text l g)

-- all levels over this one
unfoldable pub upper_rows : (most : ℕ) → Cut → Level → List ℕ
upper_rows zero cut l = []
upper_rows (suc most) cut l = if nat_le l.size 1 then [] else group_rows cut l ++ upper_rows most cut (above l)

unfoldable pub tree_rows : (n seed : ℕ) → List ℕ
tree_rows n seed = leaf_rows n seed ++ upper_rows n (tree_cut n) (leaves n) ++ region_end
