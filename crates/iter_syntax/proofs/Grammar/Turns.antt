-- How the reading functions take a level, a row or a depth apart.
use Rattle.std.proofs.Common.{◌≡◌, ℕ, zero, suc, ◌-◌, ◌≤◌, Bool, true, false, nat_eq, List, [], ◌∷◌, ◌++◌, drop, refl, sym, ap, ◌∙◌, subst, arith, append_assoc, Result, Ok, Err}
use Rattle.iter_syntax.specs.Names.{Place, BinaryOp, Expr, Token, Block, RecordDecl, Iter}
use Rattle.iter_syntax.specs.declared.tree.Expr.TheVariants as E
use Rattle.iter_syntax.specs.declared.parser.reader.Refused.{Refused}
use Rattle.iter_syntax.specs.declared.parser.reader.Refused.TheVariants.{At, Memory}
use Rattle.iter_syntax.specs.declared.token.Keyword.TheVariants as W
use Rattle.iter_syntax.specs.Kinds.{is_operator, is_keyword}
use Rattle.iter_syntax.specs.Form.{gives, Form, both, any}
use Rattle.iter_syntax.specs.Steps.Parsers.{Parser, Reading, Read, Stuck, bind, at_first, read_many}
use Rattle.iter_syntax.specs.Productions as P
use Rattle.iter_syntax.specs.Steps.Sets
use Rattle.iter_syntax.specs.Steps.Reads.{Reads, chain_rest, after, program_after}
use Rattle.iter_syntax.proofs.Grammar.Splits.{Tokens}
use Rattle.iter_syntax.proofs.Grammar.Exact.{Exact}
use Rattle.iter_syntax.proofs.Grammar.ExactMany.{many_turn}
use Rattle.iter_syntax.proofs.Grammar.ExactExpr as X
use Rattle.iter_syntax.proofs.Grammar.ExactDecl.{decl_ok}

-- a parser that goes on as another does
pub reads_as : {A : Type 0} (p q : Parser A) (ts : Tokens) (at at2 past past2 : ℕ) (r : Result (A × ℕ) Refused) → past ≤ past2 → p (drop at ts) ≡ q (drop at2 ts) → Reads q ts at2 past2 r → Reads p ts at past r
reads_as p q ts at at2 past past2 (Ok x) le e h = (omega (arith, h.0), h.1, e ∙ h.2)
reads_as p q ts at at2 past past2 (Err (At stop)) le e h = (h.0, e ∙ h.1)
reads_as p q ts at at2 past past2 (Err Memory) le e h = tt

pub unary_reads : (d : ℕ) → (d ≡ 0 → ⊥) → (ts : Tokens) (at past : ℕ) (r : Result (Expr × ℕ) Refused) → Reads (P.unary_over (P.unary (d - 1))).parse ts at past r → Reads (P.unary d).parse ts at past r
unary_reads zero some ts at past r h = absurd (some refl)
unary_reads (suc d) some ts at past r h =
    let e : suc d - 1 ≡ d = omega arith in
    subst (λ k. Reads (P.unary_over (P.unary k)).parse ts at past r) e h

-- what stands behind the first form of a pair
pair_rest : {A B C : Type 0} (a : A) (f : A × B → C) (r : Reading B) → bind (bind r (λ b more. Read (a, b) more)) (λ x left. Read (f x) left) ≡ bind r (λ b left. Read (f (a, b)) left)
pair_rest a f (Read b more) = refl
pair_rest a f (Stuck more) = refl

level_goes : (m : ℕ) (u : Form Expr) (ts left : Tokens) (a : Expr) → (m ≡ 4 → ⊥) → (P.level m u).parse ts ≡ Read a left → (P.level (suc m) u).parse ts ≡ chain_rest (suc m) a (P.level m u) left
level_goes m u ts left a other h = by_case (nat_eq m 4) refl
  where
    by_case : (b : Bool) → nat_eq m 4 ≡ b → (P.row_of b (suc m) (P.level m u)).parse ts ≡ chain_rest (suc m) a (P.level m u) left
    by_case true e = absurd (other (grind arith))
    by_case false e =
        ap (λ r. bind (bind r (λ x rest. bind ((any (both (P.operator (suc m)) (P.level m u))).parse rest) (λ y more. Read (x, y) more))) (λ x rest. Read (P.grouped x) rest)) h
        ∙ pair_rest a P.grouped ((any (both (P.operator (suc m)) (P.level m u))).parse left)

level_stuck : (m : ℕ) (u : Form Expr) (ts left : Tokens) → (P.level m u).parse ts ≡ Stuck left → (P.level (suc m) u).parse ts ≡ Stuck left
level_stuck m u ts left h = by_case (nat_eq m 4)
  where
    by_case : (b : Bool) → (P.row_of b (suc m) (P.level m u)).parse ts ≡ Stuck left
    by_case true = rw h
    by_case false = rw h

pub level_reads : (n : ℕ) → (n ≡ 0 → ⊥) → (n ≡ 5 → ⊥) → (u : Form Expr) (ts : Tokens) (at at2 past : ℕ) (a : Expr) (r : Result (Expr × ℕ) Refused) → past ≤ at2 → (P.level (n - 1) u).parse (drop at ts) ≡ Read a (drop at2 ts) → Reads (chain_rest n a (P.level (n - 1) u)) ts at2 at2 r → Reads (P.level n u).parse ts at past r
level_reads zero some other u ts at at2 past a r le h g = absurd (some refl)
level_reads (suc m) some other u ts at at2 past a r le h g =
    let e : suc m - 1 ≡ m = omega arith in
    let h2 = subst (λ k. (P.level k u).parse (drop at ts) ≡ Read a (drop at2 ts)) e h in
    let g2 = subst (λ k. Reads (chain_rest (suc m) a (P.level k u)) ts at2 at2 r) e g in
    reads_as (P.level (suc m) u).parse (chain_rest (suc m) a (P.level m u)) ts at at2 past at2 r le (level_goes m u (drop at ts) (drop at2 ts) a (λ q. other (omega arith)) h2) g2

pub level_refused : (n : ℕ) → (n ≡ 0 → ⊥) → (u : Form Expr) (ts : Tokens) (at past : ℕ) (e : Refused) → Reads (P.level (n - 1) u).parse ts at past (Err e) → Reads (P.level n u).parse ts at past (Err e)
level_refused zero some u ts at past e h = absurd (some refl)
level_refused (suc m) some u ts at past e h =
    let q : suc m - 1 ≡ m = omega arith in
    by_fault e (subst (λ k. Reads (P.level k u).parse ts at past (Err e)) q h)
  where
    by_fault : (e : Refused) → Reads (P.level m u).parse ts at past (Err e) → Reads (P.level (suc m) u).parse ts at past (Err e)
    by_fault (At stop) h = (h.0, level_stuck m u (drop at ts) (drop stop ts) h.1)
    by_fault Memory h = tt

-- one operator and its operand more
turn_taken : (left right : Expr) (o : Place × BinaryOp) (r : Reading (List ((Place × BinaryOp) × Expr))) → bind (bind r (λ others rest. Read ((o, right) ∷ others) rest)) (λ xs rest. Read (P.grouped (left, xs)) rest) ≡ bind r (λ xs rest. Read (P.grouped (E.Binary o.0 o.1 left right, xs)) rest)
turn_taken left right o (Read xs rest) = refl
turn_taken left right o (Stuck rest) = refl

pub chain_turn : (n d : ℕ) → 1 ≤ n → (left right : Expr) (o : Place × BinaryOp) (ts ts1 ts2 : Tokens) → at_first (is_operator n) ts ≡ true → (P.operator n).parse ts ≡ Read o ts1 → (P.level (n - 1) (P.unary d)).parse ts1 ≡ Read right ts2 → chain_rest n left (P.level (n - 1) (P.unary d)) ts ≡ chain_rest n (E.Binary o.0 o.1 left right) (P.level (n - 1) (P.unary d)) ts2
chain_turn n d some left right o ts ts1 ts2 first h1 h2 =
    let operand = P.level (n - 1) (P.unary d) in
    let item = both (P.operator n) operand in
    let turn = many_turn item.grammar item.parse item.first item.more (X.item_ok n d some) (X.item_off n d some) ts first in
    let got : item.parse ts ≡ Read (o, right) ts2 = ap (λ r. bind r (λ a rest. bind (operand.parse rest) (λ b more. Read (a, b) more))) h1 ∙ ap (λ r. bind r (λ b more. Read (o, b) more)) h2 in
    ap (λ r. bind r (λ xs rest. Read (P.grouped (left, xs)) rest)) (turn ∙ ap (λ r. bind r (λ a rest. bind (read_many item.first item.parse rest) (λ others more. Read (a ∷ others) more))) got)
    ∙ turn_taken left right o (read_many item.first item.parse ts2)

-- a row that goes on by one item
row_taken : {A : Type 0} (found : List A) (a : A) (r : Reading (List A)) → after found (bind r (λ others rest. Read (a ∷ others) rest)) ≡ after (found ++ a ∷ []) r
row_taken found a (Read others rest) = ap (λ l. Read l rest) (sym (append_assoc found (a ∷ []) others))
row_taken found a (Stuck rest) = refl

pub row_turn : {A : Type 0} (f : Form A) (ok : Exact f.grammar f.parse f.first f.more false) → ((t : Token) → f.first t ≡ true → f.more t ≡ false) → (found : List A) (a : A) (ts rest : Tokens) → at_first f.first ts ≡ true → f.parse ts ≡ Read a rest → after found ((any f).parse ts) ≡ after (found ++ a ∷ []) ((any f).parse rest)
row_turn f ok off found a ts rest first h =
    ap (after found) (many_turn f.grammar f.parse f.first f.more ok off ts first ∙ ap (λ r. bind r (λ a rest. bind ((any f).parse rest) (λ others more. Read (a ∷ others) more))) h)
    ∙ row_taken found a ((any f).parse rest)

pub block_reads : (d : ℕ) → (d ≡ 0 → ⊥) → (ts : Tokens) (at past : ℕ) (r : Result (Block × ℕ) Refused) → Reads (P.block_over (P.expr (d - 1)) (P.block (d - 1))).parse ts at past r → Reads (P.block d).parse ts at past r
block_reads zero some ts at past r h = absurd (some refl)
block_reads (suc d) some ts at past r h =
    let e : suc d - 1 ≡ d = omega arith in
    subst (λ k. Reads (P.block_over (P.expr k) (P.block k)).parse ts at past r) e h

-- ---- records and iterators

record_first : (b : Form Block) (ts : Tokens) → at_first (is_keyword W.Record) ts ≡ true → (P.decl_over b).parse ts ≡ (gives P.a_record P.record_decl).parse ts
record_first b ts h = rw h

iter_first : (b : Form Block) (ts : Tokens) → at_first (is_keyword W.Record) ts ≡ false → (P.decl_over b).parse ts ≡ (gives P.an_iter (P.iter_over b)).parse ts
iter_first b ts h = rw h

-- a program that goes on by one record or iterator
record_taken : (records : List RecordDecl) (iters : List Iter) (x : RecordDecl) (r : Reading (List P.Decl)) → program_after records iters (bind r (λ others rest. Read (P.a_record x ∷ others) rest)) ≡ program_after (records ++ x ∷ []) iters r
record_taken records iters x (Read others rest) = ap (λ l. Read (record { records = l; iters = iters ++ P.iters_of others }) rest) (sym (append_assoc records (x ∷ []) (P.records_of others)))
record_taken records iters x (Stuck rest) = refl

iter_taken : (records : List RecordDecl) (iters : List Iter) (x : Iter) (r : Reading (List P.Decl)) → program_after records iters (bind r (λ others rest. Read (P.an_iter x ∷ others) rest)) ≡ program_after records (iters ++ x ∷ []) r
iter_taken records iters x (Read others rest) = ap (λ l. Read (record { records = records ++ P.records_of others; iters = l }) rest) (sym (append_assoc iters (x ∷ []) (P.iters_of others)))
iter_taken records iters x (Stuck rest) = refl

module _ (n : ℕ) (records : List RecordDecl) (iters : List Iter) (ts rest : Tokens) (first : at_first Sets.begins_decl ts ≡ true) where
  abbrev decl : Form P.Decl
  decl = P.decl_over (P.block n)

  decl_turn : (x : Reading P.Decl) → decl.parse ts ≡ x → program_after records iters ((any decl).parse ts) ≡ program_after records iters (bind x (λ a rest. bind ((any decl).parse rest) (λ others more. Read (a ∷ others) more)))
  decl_turn x h =
      ap (program_after records iters) (many_turn decl.grammar decl.parse decl.first decl.more (decl_ok n) (λ t h. refl) ts first ∙ ap (λ r. bind r (λ a rest. bind ((any decl).parse rest) (λ others more. Read (a ∷ others) more))) h)

  pub record_turn : (x : RecordDecl) → at_first (is_keyword W.Record) ts ≡ true → P.record_decl.parse ts ≡ Read x rest → program_after records iters ((any decl).parse ts) ≡ program_after (records ++ x ∷ []) iters ((any decl).parse rest)
  record_turn x is h =
      decl_turn (Read (P.a_record x) rest) (record_first (P.block n) ts is ∙ ap (λ r. bind r (λ a left. Read (P.a_record a) left)) h)
      ∙ record_taken records iters x ((any decl).parse rest)

  pub iter_turn : (x : Iter) → at_first (is_keyword W.Record) ts ≡ false → (P.iter_over (P.block n)).parse ts ≡ Read x rest → program_after records iters ((any decl).parse ts) ≡ program_after records (iters ++ x ∷ []) ((any decl).parse rest)
  iter_turn x is h =
      decl_turn (Read (P.an_iter x) rest) (iter_first (P.block n) ts is ∙ ap (λ r. bind r (λ a left. Read (P.an_iter a) left)) h)
      ∙ iter_taken records iters x ((any decl).parse rest)
