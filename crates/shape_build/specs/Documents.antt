-- The three kinds of documents, of so many records and from a seed. The draws are made for the values, then for the
-- requests, then for the events.
use Rattle.std.specs.Prelude.{ℕ, ◌+◌, ◌*◌, ◌%◌, List, ◌++◌, codes, decimal}
use Rattle.shape_build.specs.Draws.{draw}
use Rattle.shape_build.specs.Text.{below, head_text}
use Rattle.shape_build.specs.Programs.{list_program, buckets_program, btree_program}
use Rattle.shape_build.specs.Requests.{events_text, request_text, two, three}
use Rattle.shape_build.specs.Records.{list_rows, head_rows, chained_rows}
use Rattle.shape_build.specs.Tree.{tree_rows, tree_address, root_number}

-- the odd keys of a list and of a tree
abbrev pub odd_key : (n a : ℕ) → ℕ
odd_key n a = 2 * (a % n) + 1

-- ---- list: 16 requests, by turns a search and a walk over all records

abbrev pub list_pair : (n seed p : ℕ) → List ℕ
list_pair n seed p = request_text (codes "find") (two 65536 (odd_key n (draw seed (n + p)))) ++ request_text (codes "bump") (decimal 65536)

abbrev pub list_text : (n seed : ℕ) → List ℕ
list_text n seed =
    head_text list_program 4096 8 ++ events_text 16 seed (n + 8) ++ list_rows n seed ++ below 8 (list_pair n seed)

-- ---- buckets: 64 requests, by turns a search and an addition

abbrev pub buckets_pair : (n seed p : ℕ) → List ℕ
buckets_pair n seed p =
    request_text (codes "lookup") (two 65536 (draw seed (n + 3 * p) % n + 1))
    ++ request_text (codes "add") (three 65536 (draw seed (n + 3 * p + 1) % n + 1) (draw seed (n + 3 * p + 2)))

abbrev pub buckets_text : (n seed : ℕ) → List ℕ
buckets_text n seed =
    head_text buckets_program 64 16 ++ events_text 64 seed (n + 96) ++ head_rows n ++ chained_rows n seed ++ below 32 (buckets_pair n seed)

-- ---- btree: 64 requests, by turns a search and a change

abbrev pub btree_pair : (n seed root p : ℕ) → List ℕ
btree_pair n seed root p =
    request_text (codes "find") (two root (odd_key n (draw seed (n + 3 * p))))
    ++ request_text (codes "put") (three root (odd_key n (draw seed (n + 3 * p + 1))) (draw seed (n + 3 * p + 2)))

abbrev pub btree_text : (n seed : ℕ) → List ℕ
btree_text n seed =
    head_text btree_program 16 4 ++ events_text 64 seed (n + 96) ++ tree_rows n seed ++ below 32 (btree_pair n seed (tree_address (root_number n)))
