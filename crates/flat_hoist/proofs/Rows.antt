-- Statements in a row: what is known of the first, and what is left.
use Rattle.std.proofs.Common.{◌≡◌, ℕ, ◌+◌, ◌*◌, ◌<◌, ◌≤◌, ◌&&◌, Bool, true, false, List, [], ◌∷◌, ◌++◌, length, get_or, drop, refl, sym, ap, ap₂, ◌∙◌, arith}
use Rattle.std.proofs.lemmas.List.{drop_all}
use Rattle.iter_unroll.specs.declared.tree.FlatExpr.{FlatExpr}
use Rattle.iter_unroll.specs.declared.tree.FlatStmt.{FlatStmt}
use Rattle.iter_unroll.specs.declared.tree.FlatStmt.TheVariants as T
use Rattle.iter_unroll.specs.Flat.{Fx, Fs}
use Rattle.iter_unroll.specs.Flat as f
use Rattle.iter_unroll.specs.Limits.{fx_nodes, fs_nodes}
use Rattle.iter_unroll.specs.Tree.{fx, fst, fsts}
use Rattle.iter_unroll.proofs.unrolling.Flats.{fst_if, fst_local}
use Rattle.iter_unroll.proofs.unrolling.Spans.{fsts_drop, nodes_drop}
use Rattle.flat_hoist.specs.declared.field.Field.{Field}
use Rattle.flat_hoist.specs.hoisting.Swapped.{in_slot, all_in_slot, before}
use Rattle.flat_hoist.specs.hoisting.Clear.{spares, clear}
use Rattle.flat_hoist.specs.hoisting.Reads.{all_reads}

none_left : (ss : List FlatStmt) (i : ℕ) → length ss ≤ i → fsts (drop i ss) ≡ f.end
none_left ss i h = ap fsts (drop_all i ss h)

-- an `if` by its parts, as they were looked at
pub if_is : (s : FlatStmt) (e : FlatExpr) (a b sa sb : List FlatStmt) → s ≡ T.If e a b → sa ≡ a → sb ≡ b → (rest : Fs) → fst s rest ≡ f.choose (fx e) (fsts sa) (fsts sb) rest
if_is s e a b sa sb is ha hb rest =
    ap (λ u. fst u rest) is ∙ fst_if e a b rest ∙ ap₂ (λ x y. f.choose (fx e) (fsts x) (fsts y) rest) (sym ha) (sym hb)

pub if_nodes : (s : FlatStmt) (e : FlatExpr) (a b sa sb : List FlatStmt) → s ≡ T.If e a b → sa ≡ a → sb ≡ b → fs_nodes (fst s f.end) ≡ 1 + fx_nodes (fx e) + fs_nodes (fsts sa) + fs_nodes (fsts sb)
if_nodes s e a b sa sb is ha hb =
    let n = ap fs_nodes (if_is s e a b sa sb is ha hb f.end) in
    omega (arith, n)

pub first_less : (s : FlatStmt) (e : FlatExpr) (a b sa sb : List FlatStmt) → s ≡ T.If e a b → sa ≡ a → sb ≡ b → 2 * fs_nodes (fsts sa) + 1 < 2 * fs_nodes (fst s f.end)
first_less s e a b sa sb is ha hb =
    let n = if_nodes s e a b sa sb is ha hb in
    omega (arith, n)

pub other_less : (s : FlatStmt) (e : FlatExpr) (a b sa sb : List FlatStmt) → s ≡ T.If e a b → sa ≡ a → sb ≡ b → 2 * fs_nodes (fsts sb) + 1 < 2 * fs_nodes (fst s f.end)
other_less s e a b sa sb is ha hb =
    let n = if_nodes s e a b sa sb is ha hb in
    omega (arith, n)

-- ---- counts

-- so far, of all of them
pub record Counted (h : Field) (ss : List FlatStmt) (i nodes read : ℕ) : Type 0 where
  pub nodes_is : fs_nodes (fsts ss) ≡ nodes + fs_nodes (fsts (drop i ss))
  pub reads_is : all_reads h (fsts ss) ≡ read + all_reads h (fsts (drop i ss))
  pub most : read ≤ nodes

pub counted_more : (h : Field) (ss : List FlatStmt) (i nodes read n r : ℕ) (s : FlatStmt) → i < length ss → s ≡ get_or ss i s → Counted h ss i nodes read
    → n ≡ fs_nodes (fst s f.end) → ((rest : Fs) → all_reads h (fst s rest) ≡ r + all_reads h rest) → r ≤ n → Counted h ss (i + 1) (nodes + n) (read + r)
counted_more h ss i nodes read n r s lt e c is reads_of few =
    let rest = fsts (drop (i + 1) ss) in
    let left = nodes_drop ss i s lt e in
    let took : all_reads h (fsts (drop i ss)) ≡ r + all_reads h rest = ap (all_reads h) (fsts_drop ss i s lt e) ∙ reads_of rest in
    record {
      nodes_is = omega (arith, c.nodes_is, left, is);
      reads_is = omega (arith, c.reads_is, took);
      most = omega (arith, c.most, few);
    }

pub counted_all : (h : Field) (ss : List FlatStmt) (i nodes read : ℕ) → length ss ≤ i → Counted h ss i nodes read → (nodes ≡ fs_nodes (fsts ss)) × (read ≡ all_reads h (fsts ss))
counted_all h ss i nodes read le c =
    let z = none_left ss i le in
    let n = ap fs_nodes z in
    let r = ap (all_reads h) z in
    (omega (arith, c.nodes_is, n), omega (arith, c.reads_is, r))

-- ---- what is clear

and_and : (a b c : Bool) → ((a && b) && c) ≡ (a && (b && c))
and_and true b c = refl
and_and false b c = refl

and_true : (a : Bool) → (a && true) ≡ a
and_true true = refl
and_true false = refl

pub clear_more : (h : Field) (k : ℕ) (ss : List FlatStmt) (i : ℕ) (all one : Bool) (s : FlatStmt) → i < length ss → s ≡ get_or ss i s
    → clear h k (fsts ss) ≡ (all && clear h k (fsts (drop i ss))) → ((rest : Fs) → clear h k (fst s rest) ≡ (one && clear h k rest))
    → clear h k (fsts ss) ≡ ((all && one) && clear h k (fsts (drop (i + 1) ss)))
clear_more h k ss i all one s lt e c is =
    let rest = fsts (drop (i + 1) ss) in
    c ∙ ap (λ b. all && b) (ap (clear h k) (fsts_drop ss i s lt e) ∙ is rest) ∙ sym (and_and all one (clear h k rest))

pub clear_all : (h : Field) (k : ℕ) (ss : List FlatStmt) (i : ℕ) (all : Bool) → length ss ≤ i → clear h k (fsts ss) ≡ (all && clear h k (fsts (drop i ss))) → all ≡ clear h k (fsts ss)
clear_all h k ss i all le c = sym (c ∙ ap (λ x. all && clear h k x) (none_left ss i le) ∙ and_true all)

pub if_clear : (h : Field) (k : ℕ) (s : FlatStmt) (e : FlatExpr) (a b sa sb : List FlatStmt) (t x y r : Bool) → s ≡ T.If e a b → sa ≡ a → sb ≡ b
    → t ≡ spares k (fx e) → x ≡ clear h k (fsts sa) → y ≡ clear h k (fsts sb) → r ≡ ((t && x) && y)
    → (rest : Fs) → clear h k (fst s rest) ≡ (r && clear h k rest)
if_clear h k s e a b sa sb t x y r is ha hb ht hx hy hr rest =
    ap (clear h k) (if_is s e a b sa sb is ha hb rest)
    ∙ ap (λ q. q && clear h k rest) (sym (hr ∙ ap₂ (λ p q. p && q) (ap₂ (λ p q. p && q) ht hx) hy))

-- ---- what is swapped

before_more : (row : List FlatStmt) (s : FlatStmt) (rest : Fs) → before (row ++ s ∷ []) rest ≡ before row (fst s rest)
before_more [] s rest = refl
before_more (t ∷ row) s rest = ap (fst t) (before_more row s rest)

before_end : (row : List FlatStmt) → before row f.end ≡ fsts row
before_end [] = refl
before_end (s ∷ row) = ap (fst s) (before_end row)

-- so far, of all of them
pub record Swapped (h : Field) (k : ℕ) (head row ss : List FlatStmt) (i : ℕ) : Type 0 where
  pub same : before head (all_in_slot h k (fsts ss)) ≡ before row (all_in_slot h k (fsts (drop i ss)))
  pub left : fs_nodes (fsts (drop i ss)) ≤ fs_nodes (fsts ss)

pub swapped_less : (h : Field) (k : ℕ) (head row ss : List FlatStmt) (i : ℕ) (s : FlatStmt) → i < length ss → s ≡ get_or ss i s → Swapped h k head row ss i
    → 2 * fs_nodes (fst s f.end) < 2 * fs_nodes (fsts ss) + 1
swapped_less h k head row ss i s lt e c =
    let n = nodes_drop ss i s lt e in
    omega (arith, n, c.left)

pub swapped_more : (h : Field) (k : ℕ) (head was now ss : List FlatStmt) (i : ℕ) (s t : FlatStmt) → i < length ss → s ≡ get_or ss i s → now ≡ was ++ t ∷ []
    → Swapped h k head was ss i → ((rest : Fs) → fst t (all_in_slot h k rest) ≡ all_in_slot h k (fst s rest)) → Swapped h k head now ss (i + 1)
swapped_more h k head was now ss i s t lt e is c one =
    let rest = fsts (drop (i + 1) ss) in
    let n = nodes_drop ss i s lt e in
    record {
      same =
          c.same ∙ ap (before was) (ap (all_in_slot h k) (fsts_drop ss i s lt e) ∙ sym (one rest))
          ∙ sym (before_more was t (all_in_slot h k rest)) ∙ ap (λ l. before l (all_in_slot h k rest)) (sym is);
      left = omega (arith, n, c.left);
    }

pub swapped_all : (h : Field) (k : ℕ) (head now ss : List FlatStmt) (i : ℕ) → length ss ≤ i → Swapped h k head now ss i → fsts now ≡ before head (all_in_slot h k (fsts ss))
swapped_all h k head now ss i le c = sym (c.same ∙ ap (λ x. before now (all_in_slot h k x)) (none_left ss i le) ∙ before_end now)

pub if_swapped : (h : Field) (k : ℕ) (s : FlatStmt) (e x : FlatExpr) (a b sa sb na nb : List FlatStmt) → s ≡ T.If e a b → sa ≡ a → sb ≡ b
    → fx x ≡ in_slot h k (fx e) → fsts na ≡ all_in_slot h k (fsts sa) → fsts nb ≡ all_in_slot h k (fsts sb)
    → (rest : Fs) → fst (T.If x na nb) (all_in_slot h k rest) ≡ all_in_slot h k (fst s rest)
if_swapped h k s e x a b sa sb na nb is ha hb hx hna hnb rest =
    fst_if x na nb (all_in_slot h k rest)
    ∙ ap (λ y. f.choose y (fsts na) (fsts nb) (all_in_slot h k rest)) hx
    ∙ ap₂ (λ y z. f.choose (in_slot h k (fx e)) y z (all_in_slot h k rest)) hna hnb
    ∙ ap (all_in_slot h k) (sym (if_is s e a b sa sb is ha hb rest))

-- behind one let
pub behind : (k : ℕ) (e : FlatExpr) (x : Fx) (was head : List FlatStmt) (rest : Fs) → was ≡ [] → head ≡ was ++ T.Local k e ∷ [] → fx e ≡ x → before head rest ≡ f.put_slot k x rest
behind k e x was head rest none is hx =
    ap (λ l. before l rest) (is ∙ ap (λ w. w ++ T.Local k e ∷ []) none) ∙ fst_local k e rest ∙ ap (λ y. f.put_slot k y rest) hx
