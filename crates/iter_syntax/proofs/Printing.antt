-- Tokens that are added to a text one after the other are its printed form.
use Rattle.std.proofs.Common.{◌≡◌, ℕ, suc, ◌+◌, ◌<◌, true, false, cond, List, [], ◌∷◌, ◌++◌, length, get_or, take, drop, slice_range, Option, flat_map, refl, sym, ap, ◌∙◌, append_assoc, append-nil, drop-cons, add-one, arith}
use Rattle.std.proofs.lemmas.List.{take_all}
use Rattle.iter_syntax.specs.declared.token.Keyword.TheVariants as W
use Rattle.iter_syntax.specs.declared.token.Symbol.TheVariants as S
use Rattle.iter_syntax.specs.Names.{Place, FieldUse, Expr, Block, RecordDecl, Iter, Stmt}
use Rattle.iter_syntax.specs.declared.tree.Stmt.TheVariants as T
use Rattle.iter_syntax.specs.Tree.{ex, used, block, sts}
use Rattle.iter_syntax.specs.Productions.{a_record, an_iter}
use Rattle.iter_syntax.specs.Printed as P
use Rattle.iter_syntax.specs.Printed.{Kinds}
use Rattle.iter_syntax.specs.Steps.Printing.{add, add_all, or_none, use_kinds, given, iter_next}
use Rattle.iter_syntax.proofs.FoldLaws.{st_set_pad, st_set_cur, st_if}
use Rattle.iter_syntax.proofs.Trims.Stmt.{alone_kinds, else_kinds, st_before, pad_kinds, cur_kinds, if_kinds}

pub all_laid : (ks : Kinds) (text : List ℕ) → add_all ks text ≡ text ++ P.laid_out ks
all_laid [] text = sym (append-nil text)
all_laid (k ∷ ks) text =
    all_laid ks (add k text)
    ∙ append_assoc (text ++ P.spelling k) (P.separator k ∷ []) (P.laid_out ks)
    ∙ append_assoc text (P.spelling k) (P.separator k ∷ P.laid_out ks)

pub all_append : (a b : Kinds) (text : List ℕ) → add_all (a ++ b) text ≡ add_all b (add_all a text)
all_append [] b text = refl
all_append (k ∷ a) b text = all_append a b (add k text)

-- two forms with a comma between them, in parentheses
pub at_added : (a b : Kinds) (text : List ℕ) → add_all (P.between S.OpenRound (a ++ P.sym S.Comma ∷ b) S.CloseRound) text ≡ add (P.sym S.CloseRound) (add_all b (add (P.sym S.Comma) (add_all a (add (P.sym S.OpenRound) text))))
at_added a b text =
    all_append (a ++ P.sym S.Comma ∷ b) (P.sym S.CloseRound ∷ []) (add (P.sym S.OpenRound) text)
    ∙ ap (add (P.sym S.CloseRound)) (all_append a (P.sym S.Comma ∷ b) (add (P.sym S.OpenRound) text))

-- ---- statements

pub pad_added : (p : Place) (u : FieldUse) (v : Expr) (text : List ℕ) → add_all (alone_kinds (T.SetPad p u v)) text ≡ add_all (given (ex v)) (add_all (use_kinds (used u)) (add (P.sym S.Dot) (add (P.key W.Pad) text)))
pad_added p u v text =
    ap (λ ss. add_all (P.stmt_kinds ss) text) (st_set_pad p u v _) ∙ ap (λ ks. add_all ks text) (pad_kinds p (used u).0 (used u).1 (ex v)) ∙ all_append (use_kinds (used u)) (given (ex v)) _

pub cur_added : (p : Place) (u : FieldUse) (v : Expr) (text : List ℕ) → add_all (alone_kinds (T.SetCur p u v)) text ≡ add_all (given (ex v)) (add_all (use_kinds (used u)) (add (P.sym S.Dot) (add (P.key W.Cur) text)))
cur_added p u v text =
    ap (λ ss. add_all (P.stmt_kinds ss) text) (st_set_cur p u v _) ∙ ap (λ ks. add_all ks text) (cur_kinds p (used u).0 (used u).1 (ex v)) ∙ all_append (use_kinds (used u)) (given (ex v)) _

pub if_added : (p : Place) (t : Expr) (first : Block) (other : Option Block) (text : List ℕ) → add_all (alone_kinds (T.If p t first other)) text ≡ add_all (or_none else_kinds other) (add_all (P.block_kinds first) (add_all (P.expr_kinds (ex t)) (add (P.key W.If) text)))
if_added p t first other text =
    ap (λ ss. add_all (P.stmt_kinds ss) text) (st_if p t first other _)
    ∙ ap (λ ks. add_all ks text) (if_kinds p (ex t) (block first) other)
    ∙ all_append (P.expr_kinds (ex t)) (P.block_kinds first ++ or_none else_kinds other) (add (P.key W.If) text)
    ∙ all_append (P.block_kinds first) (or_none else_kinds other) (add_all (P.expr_kinds (ex t)) (add (P.key W.If) text))

-- one of the statements that are left, and those behind it
pub stmt_added : (ss : List Stmt) (i : ℕ) (s : Stmt) (text : List ℕ) → i < length ss → s ≡ get_or ss i s → add_all (P.stmt_kinds (sts (drop i ss))) text ≡ add_all (P.stmt_kinds (sts (drop (i + 1) ss))) (add_all (alone_kinds s) text)
stmt_added ss i s text lt is =
    let rest = sts (drop (suc i) ss) in
    ap (λ l. add_all (P.stmt_kinds (sts l)) text) (drop-cons ss i s lt ∙ ap (λ u. u ∷ drop (suc i) ss) (sym is))
    ∙ ap (λ ks. add_all ks text) (st_before s rest)
    ∙ all_append (alone_kinds s) (P.stmt_kinds rest) text
    ∙ ap (λ k. add_all (P.stmt_kinds (sts (drop k ss))) (add_all (alone_kinds s) text)) (sym (add-one i))

-- ---- records and iterators

abbrev pub add_decls : List RecordDecl → List Iter → List ℕ → List ℕ
add_decls rs is text = add_all (flat_map P.decl_kinds (P.in_order rs is)) text

-- one item of those that are left less
left : {A : Type 0} (x y : A) (xs : List A) → y ≡ get_or (x ∷ xs) 0 y → (y ≡ x) × (slice_range (x ∷ xs) 1 (length (x ∷ xs)) ≡ xs)
left x y xs e = (e, ap (λ k. take k xs) (omega arith) ∙ take_all (length xs) xs (omega arith))

-- an iterator before the records that are left
iter_before : (rs : List RecordDecl) (i : Iter) (is : List Iter) (text : List ℕ) → iter_next rs (i ∷ is) ≡ true → add_decls rs (i ∷ is) text ≡ add_decls rs is (add_all (P.iter_kinds i) text)
iter_before [] i is text h = all_append (P.iter_kinds i) _ text
iter_before (r ∷ rs) i is text h =
    ap (λ b. add_all (flat_map P.decl_kinds (cond b (an_iter i ∷ P.put_record (P.in_order rs) r is) (a_record r ∷ P.in_order rs (i ∷ is)))) text) h
    ∙ all_append (P.iter_kinds i) _ text

pub iter_added : (rs : List RecordDecl) (is : List Iter) (i : Iter) (text : List ℕ) → i ≡ get_or is 0 i → iter_next rs is ≡ true
    → add_decls rs is text ≡ add_decls rs (slice_range is 1 (length is)) (add_all (P.iter_kinds i) text)
iter_added rs [] i text e h = absurd (cc)
iter_added rs (x ∷ is) i text e h =
    let l = left x i is e in
    iter_before rs x is text h ∙ ap (λ y. add_decls rs is (add_all (P.iter_kinds y) text)) (sym l.0) ∙ ap (λ z. add_decls rs z (add_all (P.iter_kinds i) text)) (sym l.1)

-- a record before the iterators that are left
record_before : (r : RecordDecl) (rs : List RecordDecl) (is : List Iter) (text : List ℕ) → iter_next (r ∷ rs) is ≡ false → add_decls (r ∷ rs) is text ≡ add_decls rs is (add_all (P.record_kinds r) text)
record_before r rs [] text h = all_append (P.record_kinds r) _ text
record_before r rs (i ∷ is) text h =
    ap (λ b. add_all (flat_map P.decl_kinds (cond b (an_iter i ∷ P.put_record (P.in_order rs) r is) (a_record r ∷ P.in_order rs (i ∷ is)))) text) h
    ∙ all_append (P.record_kinds r) _ text

pub record_added : (rs : List RecordDecl) (is : List Iter) (r : RecordDecl) (text : List ℕ) → r ≡ get_or rs 0 r → 0 < length rs → iter_next rs is ≡ false
    → add_decls rs is text ≡ add_decls (slice_range rs 1 (length rs)) is (add_all (P.record_kinds r) text)
record_added [] is r text e some h = absurd (omega arith)
record_added (x ∷ rs) is r text e some h =
    let l = left x r rs e in
    record_before x rs is text h ∙ ap (λ y. add_decls rs is (add_all (P.record_kinds y) text)) (sym l.0) ∙ ap (λ z. add_decls z is (add_all (P.record_kinds r) text)) (sym l.1)
