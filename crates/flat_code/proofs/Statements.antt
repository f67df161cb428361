-- The code of flat statements does what they mean.
use Rattle.std.proofs.Common.{◌≡◌, ◌≢◌, ℕ, zero, suc, ◌+◌, ◌/◌, ◌%◌, ◌<◌, ◌≤◌, Bool, true, false, if◌then◌else◌, List, ◌∷◌, ◌++◌, length, take, drop, get_or, set, Option, Some, None, refl, sym, ap, ◌∙◌, subst, ◌⊎◌, inl, inr, ◌&&◌, ◌||◌, arith, append_assoc, length-append}
use Rattle.std.specs.Prelude.{slice_get}
use Rattle.std.proofs.lemmas.Bool.{cases_eq, le-leb, and_from}
use Rattle.std.proofs.lemmas.List.{get_or-set_same, get_or-set_other, length-set}
use Rattle.pulse_isa.specs.declared.instr.Instr.{Instr}
use Rattle.pulse_isa.specs.declared.instr.Instr.TheVariants.{PutW, PutP, Jmp, Return, NextIter}
use Rattle.pulse_isa.specs.Bytes.{is_width, low_bytes, stored_at}
use Rattle.pulse_isa.proofs.ByteLaws.{stored_at-there, length-stored}
use Rattle.pulse_isa.specs.Step.{State, End, After, On, given, reading, with_reg, permitted, put_pad, put_bytes, is_inside, step}
use Rattle.pulse_isa.specs.Step as m
use Rattle.code_verify.specs.Run.{follow, run}
use Rattle.code_verify.specs.Fits.{HasBytes, HasSeen}
use Rattle.iter_syntax.specs.declared.tree.Width.{Width}
use Rattle.iter_check.specs.Layout.{width_bytes}
use Rattle.iter_check.specs.FieldValue.{bytes_of, write_at}
use Rattle.iter_check.specs.Value.{word}
use Rattle.iter_check.specs.Iteration.{Iterated}
use Rattle.iter_check.specs.Iteration as i
use Rattle.iter_unroll.specs.Flat.{Fx, Fs, Fixed, Slots, flat_value, Leaving, Falls, Ends, flat_given, flat_writable, flat_then, flat_pick, to_slot, to_pad, to_cur, flat_meaning}
use Rattle.iter_unroll.specs.Flat as x
use Rattle.flat_code.specs.Code.{code_of, operand, operand_code, operand_len, height}
use Rattle.flat_code.specs.Frame.{Frame, left_bytes, UseFits, FsFits, Agrees, end_of}
use Rattle.flat_code.specs.Statements.{leaves, over_len, over, sts_len, taken, sts_code}
use Rattle.flat_code.proofs.Base.{Kept, Tied, tied_on, at, here_is, pass, Leads, Word, Jump, led, word_from, jump_from}
use Rattle.flat_code.proofs.Long.{operand_long, code_long}
use Rattle.flat_code.proofs.Right.{operand_right}
use Rattle.flat_code.proofs.Operators.{suc_true}
use Rattle.flat_code.proofs.Values.{code_right}

-- ---- slots are below 8

abbrev pub SlotsLow : Fs → Type 0
SlotsLow x.end = Unit {0}
SlotsLow (x.put_slot k e rest) = (k < 8) × SlotsLow rest
SlotsLow (x.put_pad o w e rest) = SlotsLow rest
SlotsLow (x.put_cur o w e rest) = SlotsLow rest
SlotsLow (x.choose e first other rest) = SlotsLow first × SlotsLow other × SlotsLow rest
SlotsLow (x.done rest) = SlotsLow rest
SlotsLow (x.go e rest) = SlotsLow rest

pub fits_low : (f : Frame) (ss : Fs) → FsFits f ss → SlotsLow ss
fits_low f x.end fit = tt
fits_low f (x.put_slot k e rest) fit = (fit.0, fits_low f rest fit.2)
fits_low f (x.put_pad o w e rest) fit = fits_low f rest fit.2
fits_low f (x.put_cur o w e rest) fit = fits_low f rest fit.3
fits_low f (x.choose e first other rest) fit = (fits_low f first fit.1, fits_low f other fit.2, fits_low f rest fit.3)
fits_low f (x.done rest) fit = fits_low f rest fit
fits_low f (x.go e rest) fit = fits_low f rest fit.1

-- ---- where statements lead

pub record FallsTo (f : Frame) (g : Fixed) (e : End) (there : ℕ) (post : List Instr) (a : Slots) : Type 0 where
  pub state : State
  pub after : List ℕ
  pub comes : e ≡ run there post (at state there after)
  pub agrees : Agrees f g a state
  pub tied : Tied a.slots after

abbrev pub Carries : Frame → Fixed → End → ℕ → List Instr → Leaving → Type 0
Carries f g e there post (Falls a) = FallsTo f g e there post a
Carries f g e there post (Ends r) = e ≡ end_of f r

pub carries_from : (f : Frame) (g : Fixed) (e e' : End) (there there' : ℕ) (post : List Instr) (o : Leaving) → e' ≡ e → there ≡ there' → Carries f g e there post o → Carries f g e' there' post o
carries_from f g e e' there there' post (Falls a) q p c =
    record { state = c.state; after = c.after; comes = q ∙ c.comes ∙ ap (λ h. run h post (at c.state h c.after)) p; agrees = c.agrees; tied = c.tied }
carries_from f g e e' there there' post (Ends r) q p c = q ∙ c

given_on : (f : Frame) (g : Fixed) (o : Option ℕ) (F : ℕ → Leaving) (e : End) (there : ℕ) (post : List Instr) (P : ℕ → Type 0) → Leads e o P → ((v : ℕ) → P v → Carries f g e there post (F v)) → Carries f g e there post (flat_given o F)
given_on f g None F e there post P l next = l
given_on f g (Some v) F e there post P l next = next v l

pub then_on : (f : Frame) (g : Fixed) (o : Leaving) (F : Slots → Leaving) (e : End) (h there : ℕ) (p1 post : List Instr) → Carries f g e h p1 o → ((a : Slots) (s : State) (regs : List ℕ) → Agrees f g a s → Tied a.slots regs → Carries f g (run h p1 (at s h regs)) there post (F a)) → Carries f g e there post (flat_then o F)
then_on f g (Falls a) F e h there p1 post c next = carries_from f g _ e there there post (F a) c.comes refl (next a c.state c.after c.agrees c.tied)
then_on f g (Ends r) F e h there p1 post c next = c

-- ---- slots and bytes

tied_set : (k v : ℕ) (slots regs after : List ℕ) → k < 8 → Tied slots regs → Kept k 8 regs after → slice_get after k ≡ Some v → Tied (set slots k v) after
tied_set k v slots regs after lt h kept hv = record {
  count = length-set slots k v ∙ h.count;
  long = kept.long ∙ h.long;
  slot = λ j lj. by_slot j lj (cases_eq j k);
  zeros = kept.top ∙ h.zeros;
}
  where
    by_slot : (j : ℕ) → j < 8 → (j ≡ k) ⊎ (j ≢ k) → slice_get after j ≡ Some (get_or (set slots k v) j 0)
    by_slot j lj (inl e) = subst (λ n. slice_get after n ≡ Some (get_or (set slots k v) n 0)) (sym e) (hv ∙ ap Some (sym (get_or-set_same slots k v 0 (omega (arith, h.count)))))
    by_slot j lj (inr ne) = kept.low j lj ne ∙ h.slot j lj ∙ ap Some (sym (get_or-set_other slots k j v 0 ne))

agrees_slot : (f : Frame) (g : Fixed) (a : Slots) (s : State) (k v : ℕ) → Agrees f g a s → Agrees f g (to_slot k v a) s
agrees_slot f g a s k v h = record { window = h.window; size = h.size; pad_size = h.pad_size; pad = h.pad; cur = h.cur; bytes = h.bytes; args = h.args; writable = h.writable }

bytes_is : (w v : ℕ) → low_bytes w v ≡ bytes_of w v
bytes_is zero v = refl
bytes_is (suc w) v = ap (λ l. v % 256 ∷ l) (bytes_is w (v / 256))

written : (bytes : List ℕ) (o : ℕ) (w : Width) (v : ℕ) → o + width_bytes w ≤ length bytes → take o bytes ++ low_bytes (width_bytes w) v ++ drop (o + width_bytes w) bytes ≡ write_at bytes o w v
written bytes o w v h =
    let n = width_bytes w in
    ap (λ l. take o bytes ++ l ++ drop (o + n) bytes) (bytes_is n v)
    ∙ sym (ap (λ (b : Bool). if b then take o bytes ++ bytes_of n v ++ drop (o + n) bytes else bytes) (le-leb (o + n) (length bytes) h))

stored_is : (bytes : List ℕ) (o : ℕ) (w : Width) (v : ℕ) → o + width_bytes w ≤ length bytes → stored_at bytes o (width_bytes w) v ≡ Some (write_at bytes o w v)
stored_is bytes o w v h = stored_at-there bytes o (width_bytes w) v h ∙ ap Some (written bytes o w v h)

length_written : (bytes : List ℕ) (o : ℕ) (w : Width) (v : ℕ) → o + width_bytes w ≤ length bytes → length (write_at bytes o w v) ≡ length bytes
length_written bytes o w v h = ap length (sym (written bytes o w v h)) ∙ length-stored bytes o (width_bytes w) v h

abbrev pub padded : ℕ → Width → ℕ → State → State
padded o w v s = record s { pad = write_at s.pad o w v }

agrees_pad : (f : Frame) (g : Fixed) (a : Slots) (s : State) (o : ℕ) (w : Width) (v : ℕ) → HasBytes f.pad o (width_bytes w) → Agrees f g a s → Agrees f g (to_pad o w v a) (padded o w v s)
agrees_pad f g a s o w v fit h = record { window = h.window; size = h.size; pad_size = length_written s.pad o w v (omega (arith, fit.within, h.pad_size)) ∙ h.pad_size; pad = ap (λ l. write_at l o w v) h.pad; cur = h.cur; bytes = h.bytes; args = h.args; writable = h.writable }

pad_step : (r o : ℕ) (w : Width) (v n h : ℕ) (s : State) (regs : List ℕ) → HasBytes n o (width_bytes w) → length s.pad ≡ n → slice_get regs r ≡ Some v → step (PutP r (width_bytes w) o) (at s h regs) ≡ On (at (padded o w v s) (h + 1) regs)
pad_step r o w v n h s regs fit size hx =
    let k = width_bytes w in
    ap (λ b. given b (with_reg (at s h regs) r (λ v. reading (stored_at s.pad o k v) (λ pad. put_pad pad (at s h regs))))) fit.width
    ∙ ap (λ z. reading z (λ v. reading (stored_at s.pad o k v) (λ pad. put_pad pad (at s h regs)))) hx
    ∙ ap (λ z. reading z (λ pad. put_pad pad (at s h regs))) (stored_is s.pad o w v (omega (arith, fit.within)))

abbrev pub recorded : ℕ → Width → ℕ → State → State
recorded o w v s = record s { bytes = write_at s.bytes o w v }

left_is : (f : Frame) (l : List ℕ) → f.init ≡ false → left_bytes f l ≡ l
left_is f l e = ap (λ (b : Bool). if b then f.given else l) e

agrees_cur : (f : Frame) (g : Fixed) (a : Slots) (s : State) (o : ℕ) (w : Width) (v : ℕ) → f.init ≡ false → HasSeen f.size f.window o (width_bytes w) → Agrees f g a s → Agrees f g (to_cur o w v a) (recorded o w v s)
agrees_cur f g a s o w v body fit h = record {
  window = h.window;
  size = length_written s.bytes o w v (omega (arith, fit.bytes.within, h.size)) ∙ h.size;
  pad_size = h.pad_size;
  pad = h.pad;
  cur = h.cur;
  bytes = ap (λ l. write_at l o w v) (h.bytes ∙ left_is f a.record_bytes body) ∙ sym (left_is f (write_at a.record_bytes o w v) body);
  args = h.args;
  writable = h.writable;
}

cur_step : (r o : ℕ) (w : Width) (v h : ℕ) (f : Frame) (s : State) (regs : List ℕ) → HasSeen f.size f.window o (width_bytes w) → s.window ≡ f.window → length s.bytes ≡ f.size → slice_get regs r ≡ Some v → step (PutW r (width_bytes w) o) (at s h regs) ≡ permitted s.writable (On (at (recorded o w v s) (h + 1) regs))
cur_step r o w v h f s regs fit hw size hx =
    let t = at s h regs in
    let k = width_bytes w in
    let inside : is_inside s.window o k ≡ true = ap (λ x. is_inside x o k) hw ∙ fit.inside in
    ap (λ b. given b (with_reg t r (λ v. reading (stored_at s.bytes o k v) (λ bytes. permitted s.writable (put_bytes bytes t))))) (and_from (is_width k) (is_inside s.window o k) fit.bytes.width inside)
    ∙ ap (λ z. reading z (λ v. reading (stored_at s.bytes o k v) (λ bytes. permitted s.writable (put_bytes bytes t)))) hx
    ∙ ap (λ z. reading z (λ bytes. permitted s.writable (put_bytes bytes t))) (stored_is s.bytes o w v (omega (arith, fit.bytes.within)))

-- ---- statements

abbrev pub StsRight : Frame → Fixed → Fs → Type 0
StsRight f g ss =
    (here : ℕ) (post : List Instr) (a : Slots) (s : State) (regs : List ℕ) → FsFits f ss → Agrees f g a s → Tied a.slots regs
    → Carries f g (run here (sts_code ss here ++ post) (at s here regs)) (here + sts_len ss) post (flat_meaning g ss a)

-- an operand, and what takes its word
taken_on : (f : Frame) (g : Fixed) (e : Fx) (i : ℕ → Instr) (F : ℕ → Leaving) (here there : ℕ) (rest post : List Instr) (a : Slots) (s : State) (regs : List ℕ) → UseFits f e → Agrees f g a s → Tied a.slots regs
    → ((v : ℕ) (after : List ℕ) → slice_get after (operand (code_of e).home 8) ≡ Some v → Tied a.slots after →
    Carries f g (run (here + operand_len (code_of e)) (i (operand (code_of e).home 8) ∷ (rest ++ post)) (at s (here + operand_len (code_of e)) after)) there post (F v))
    → Carries f g (run here (taken (code_of e) i here rest ++ post) (at s here regs)) there post (flat_given (word (flat_value g a e)) F)
taken_on f g e i F here there rest post a s regs fit h tied next =
    let c = code_of e in
    let r = operand c.home 8 in
    let h1 = here + operand_len c in
    let o = word (flat_value g a e) in
    let start = run here (taken c i here rest ++ post) (at s here regs) in
    given_on f g o F start there post (Word start h1 r 8 8 (i r ∷ (rest ++ post)) s regs)
    (word_from _ start h1 h1 r 8 8 (i r ∷ (rest ++ post)) s regs o (ap (λ l. run here l (at s here regs)) (append_assoc (operand_code c 8 here) (i r ∷ rest) post)) refl
    (operand_right (height e) a.slots s c o (code_right f g a s h e fit.0) 8 here (i r ∷ (rest ++ post)) regs tied (omega arith) (omega (arith, fit.1))))
    (λ v w. carries_from f g _ start there there post (F v) w.comes refl (next v w.after w.value (tied_on 8 8 a.slots regs w.after (omega arith) (omega arith) tied w.kept)))

-- ---- how many they are

pub over_long : (b : Bool) (n out : ℕ) → length (over b n out) ≡ over_len b n
over_long true n out = refl
over_long false zero out = refl
over_long false (suc n) out = refl

taken_long : (e : Fx) (i : ℕ → Instr) (here : ℕ) (rest : List Instr) → length (taken (code_of e) i here rest) ≡ operand_len (code_of e) + 1 + length rest
taken_long e i here rest =
    omega (arith, length-append (operand_code (code_of e) 8 here) (i (operand (code_of e).home 8) ∷ rest), operand_long (code_of e) (code_long e) 8 here)

pub sts_long : (ss : Fs) → SlotsLow ss → (here : ℕ) → length (sts_code ss here) ≡ sts_len ss
sts_long x.end low here = refl
sts_long (x.put_slot k e rest) low here =
    let c = code_of e in
    omega (arith, length-append (c.value k 8 here) (sts_code rest (here + c.slot_len)), (code_long e).slot k 8 here (λ q. omega (arith, q, low.0)), sts_long rest low.1 (here + c.slot_len))
sts_long (x.put_pad o w e rest) low here =
    let n = here + operand_len (code_of e) + 1 in
    omega (arith, taken_long e (λ r. PutP r (width_bytes w) o) here (sts_code rest n), sts_long rest low n)
sts_long (x.put_cur o w e rest) low here =
    let n = here + operand_len (code_of e) + 1 in
    omega (arith, taken_long e (λ r. PutW r (width_bytes w) o) here (sts_code rest n), sts_long rest low n)
sts_long (x.choose e first other rest) low here =
    let c = code_of e in
    let n = sts_len other in
    let b = leaves first in
    let h1 = here + c.branch_len in
    let h3 = h1 + sts_len first + over_len b n in
    let out = h3 + n in
    let cc = c.branch false h3 8 here in
    let cf = sts_code first h1 in
    let ov = over b n out in
    let co = sts_code other h3 in
    let cr = sts_code rest out in
    omega (arith, length-append cc (cf ++ (ov ++ (co ++ cr))), length-append cf (ov ++ (co ++ cr)), length-append ov (co ++ cr), length-append co cr, (code_long e).branch false h3 8 here, over_long b n out, sts_long first low.0 h1, sts_long other low.1 h3, sts_long rest low.2 out)
sts_long (x.done rest) low here = omega (arith, sts_long rest low (here + 1))
sts_long (x.go e rest) low here =
    let n = here + operand_len (code_of e) + 1 in
    omega (arith, taken_long e NextIter here (sts_code rest n), sts_long rest low n)

-- ---- statements that leave

abbrev pub HasEnded : Leaving → Type 0
HasEnded (Falls a) = ⊥
HasEnded (Ends r) = Unit {0}

ended_given : (o : Option ℕ) (F : ℕ → Leaving) → ((v : ℕ) → HasEnded (F v)) → HasEnded (flat_given o F)
ended_given None F h = tt
ended_given (Some v) F h = h v

ended_writable : (b : Bool) (o : Leaving) → HasEnded o → HasEnded (flat_writable b o)
ended_writable true o h = h
ended_writable false o h = tt

ended_first : (o : Leaving) (F : Slots → Leaving) → HasEnded o → HasEnded (flat_then o F)
ended_first (Falls a) F h = absurd h
ended_first (Ends r) F h = tt

ended_then : (o : Leaving) (F : Slots → Leaving) → ((a : Slots) → HasEnded (F a)) → HasEnded (flat_then o F)
ended_then (Falls a) F h = h a
ended_then (Ends r) F h = tt

ended_pick : (v : ℕ) (p q : Leaving) → HasEnded p → HasEnded q → HasEnded (flat_pick v p q)
ended_pick zero p q hp hq = hq
ended_pick (suc v) p q hp hq = hp

ended_choice : (b c r : Bool) (v : ℕ) (p q : Leaving) (F : Slots → Leaving) → ((b && c) || r) ≡ true → (b ≡ true → HasEnded p) → (c ≡ true → HasEnded q) → (r ≡ true → (a : Slots) → HasEnded (F a)) → HasEnded (flat_then (flat_pick v p q) F)
ended_choice true true r v p q F h hp hq hr = ended_first (flat_pick v p q) F (ended_pick v p q (hp refl) (hq refl))
ended_choice true false r v p q F h hp hq hr = ended_then (flat_pick v p q) F (hr h)
ended_choice false c r v p q F h hp hq hr = ended_then (flat_pick v p q) F (hr h)

ended : (g : Fixed) (ss : Fs) (a : Slots) → leaves ss ≡ true → HasEnded (flat_meaning g ss a)
ended g x.end a h = absurd cc
ended g (x.put_slot k e rest) a h = ended_given (word (flat_value g a e)) _ (λ v. ended g rest (to_slot k v a) h)
ended g (x.put_pad o w e rest) a h = ended_given (word (flat_value g a e)) _ (λ v. ended g rest (to_pad o w v a) h)
ended g (x.put_cur o w e rest) a h = ended_given (word (flat_value g a e)) _ (λ v. ended_writable g.writable _ (ended g rest (to_cur o w v a) h))
ended g (x.choose e first other rest) a h =
    ended_given (word (flat_value g a e)) _
    (λ v. ended_choice (leaves first) (leaves other) (leaves rest) v _ _ _ h (ended g first a) (ended g other a) (λ q b. ended g rest b q))
ended g (x.done rest) a h = tt
ended g (x.go e rest) a h = ended_given (word (flat_value g a e)) _ (λ v. tt)

-- ---- a choice

carries_map : (f : Frame) (g : Fixed) (e : End) (h h' : ℕ) (p p' : List Instr) (o : Leaving) → ((s : State) (regs : List ℕ) → run h p (at s h regs) ≡ run h' p' (at s h' regs)) → Carries f g e h p o → Carries f g e h' p' o
carries_map f g e h h' p p' (Falls a) q c = record { state = c.state; after = c.after; comes = c.comes ∙ q c.state c.after; agrees = c.agrees; tied = c.tied }
carries_map f g e h h' p p' (Ends r) q c = c

jumped : (n h out : ℕ) (co q : List Instr) (s : State) (regs : List ℕ) → length co ≡ n → out ≡ h + over_len false n + n → run h (over false n out ++ (co ++ q)) (at s h regs) ≡ run out q (at s out regs)
jumped zero h out co q s regs long e =
    let z : h + length co ≡ out = omega arith in
    let y : h ≡ out = omega arith in
    pass co q h h s regs (omega arith) ∙ ap (λ p. run p q (at s h regs)) z ∙ ap (λ p. run out q (at s p regs)) y
jumped (suc n) h out co q s regs long e =
    let z : h + 1 + length co ≡ out = omega arith in
    here_is h (Jmp out) (co ++ q) s regs ∙ pass co q (h + 1) out s regs (omega arith) ∙ ap (λ p. run p q (at s out regs)) z

carries_ended : (f : Frame) (g : Fixed) (e : End) (h h' : ℕ) (p p' : List Instr) (o : Leaving) → HasEnded o → Carries f g e h p o → Carries f g e h' p' o
carries_ended f g e h h' p p' (Falls a) ended c = absurd ended
carries_ended f g e h h' p p' (Ends r) ended c = c

-- behind the first branch: past the other one
past_other : (f : Frame) (g : Fixed) (b : Bool) (n h out : ℕ) (co q : List Instr) (e : End) (o : Leaving) → (b ≡ true → HasEnded o) → length co ≡ n → out ≡ h + over_len b n + n → Carries f g e h (over b n out ++ (co ++ q)) o → Carries f g e out q o
past_other f g true n h out co q e o ended long eo c = carries_ended f g e h out (over true n out ++ (co ++ q)) q o (ended refl) c
past_other f g false n h out co q e o ended long eo c = carries_map f g e h out (over false n out ++ (co ++ q)) q o (λ s regs. jumped n h out co q s regs long eo) c

picked : (f : Frame) (g : Fixed) (b : Bool) (v : ℕ) (ma mb : Leaving) (e : End) (h1 h2 n out : ℕ) (cf co q : List Instr) (a : Slots) (s : State) (regs : List ℕ) →
    let h3 = h2 + over_len b n in
    let p1 = cf ++ (over b n out ++ (co ++ q)) in
    (b ≡ true → HasEnded ma) → h2 ≡ h1 + length cf → length co ≡ n → out ≡ h2 + over_len b n + n → Tied a.slots regs
    → Jump e false h3 h1 8 p1 s regs v
    → ((after : List ℕ) → Tied a.slots after → Carries f g (run h1 p1 (at s h1 after)) h2 (over b n out ++ (co ++ q)) ma)
    → ((after : List ℕ) → Tied a.slots after → Carries f g (run h3 (co ++ q) (at s h3 after)) out q mb)
    → Carries f g e out q (flat_pick v ma mb)
picked f g b zero ma mb e h1 h2 n out cf co q a s regs ended e2 long eo tied j first other =
    let h3 = h2 + over_len b n in
    let ov = over b n out in
    let t = tied_on 8 8 a.slots regs j.after (omega arith) (omega arith) tied j.kept in
    let z : h1 + length (cf ++ ov) ≡ h3 = omega (arith, length-append cf ov, over_long b n out) in
    carries_from f g _ e out out q mb
    (j.comes ∙ ap (λ l. run h1 l (at s h3 j.after)) (sym (append_assoc cf ov (co ++ q))) ∙ pass (cf ++ ov) (co ++ q) h1 h3 s j.after (omega arith) ∙ ap (λ p. run p (co ++ q) (at s h3 j.after)) z)
    refl (other j.after t)
picked f g b (suc v) ma mb e h1 h2 n out cf co q a s regs ended e2 long eo tied j first other =
    let h3 = h2 + over_len b n in
    let t = tied_on 8 8 a.slots regs j.after (omega arith) (omega arith) tied j.kept in
    past_other f g b n h2 out co q e ma ended long eo
    (carries_from f g _ e h2 h2 (over b n out ++ (co ++ q)) ma (j.comes ∙ ap (λ to. run h1 (cf ++ (over b n out ++ (co ++ q))) (at s to j.after)) (ap (λ c. led false c h3 h1) (suc_true v))) refl (first j.after t))

-- ---- all of them

may_write : (f : Frame) (g : Fixed) (b c : Bool) (e : End) (h there : ℕ) (rest post : List Instr) (t : State) (o : Leaving) → b ≡ c → e ≡ follow (permitted b (On t)) (run h rest) → Carries f g (run h rest t) there post o → Carries f g e there post (flat_writable c o)
may_write f g true true e h there rest post t o q es c = carries_from f g _ e there there post o es refl c
may_write f g true false e h there rest post t o q es c = absurd cc
may_write f g false true e h there rest post t o q es c = absurd cc
may_write f g false false e h there rest post t o q es c = es

pub sts_right : (f : Frame) (g : Fixed) (ss : Fs) → StsRight f g ss
sts_right f g x.end here post a s regs fit h tied =
    let z : here ≡ here + 0 = omega arith in
    record { state = s; after = regs; comes = ap (λ p. run p post (at s p regs)) z; agrees = h; tied = tied }
sts_right f g (x.put_slot k e rest) here post a s regs fit h tied =
    let c = code_of e in
    let r = code_right f g a s h e fit.1.0 in
    let h1 = here + c.slot_len in
    let cv = c.value k 8 here in
    let cr = sts_code rest h1 in
    let o = word (flat_value g a e) in
    let start = run here ((cv ++ cr) ++ post) (at s here regs) in
    let there = here + (c.slot_len + sts_len rest) in
    let z : h1 + sts_len rest ≡ there = omega arith in
    given_on f g o (λ v. flat_meaning g rest (to_slot k v a)) start there post (Word start h1 k k 8 (cr ++ post) s regs)
    (word_from _ start _ h1 k k 8 (cr ++ post) s regs o (ap (λ l. run here l (at s here regs)) (append_assoc cv cr post)) (ap (λ n. here + n) (r.long.slot k 8 here (λ q. omega (arith, q, fit.0))))
    (r.value k 8 here (cr ++ post) regs tied (omega arith) (omega (arith, fit.1.1)) (omega (arith, fit.0))))
    (λ v w. carries_from f g _ start _ there post (flat_meaning g rest (to_slot k v a)) w.comes z
    (sts_right f g rest h1 post (to_slot k v a) s w.after fit.2 (agrees_slot f g a s k v h) (tied_set k v a.slots regs w.after fit.0 tied w.kept w.value)))
sts_right f g (x.put_pad o w e rest) here post a s regs fit h tied =
    let c = code_of e in
    let h1 = here + operand_len c in
    let r = operand c.home 8 in
    let cr = sts_code rest (h1 + 1) in
    let there = here + (operand_len c + 1 + sts_len rest) in
    let z : h1 + 1 + sts_len rest ≡ there = omega arith in
    taken_on f g e (λ r. PutP r (width_bytes w) o) (λ v. flat_meaning g rest (to_pad o w v a)) here there cr post a s regs fit.1 h tied
    (λ v after hx t. carries_from f g _ _ _ there post (flat_meaning g rest (to_pad o w v a))
    (here_is h1 (PutP r (width_bytes w) o) (cr ++ post) s after ∙ ap (λ x. follow x (run (h1 + 1) (cr ++ post))) (pad_step r o w v f.pad h1 s after fit.0 h.pad_size hx)) z
    (sts_right f g rest (h1 + 1) post (to_pad o w v a) (padded o w v s) after fit.2 (agrees_pad f g a s o w v fit.0 h) t))
sts_right f g (x.put_cur o w e rest) here post a s regs fit h tied =
    let c = code_of e in
    let h1 = here + operand_len c in
    let r = operand c.home 8 in
    let cr = sts_code rest (h1 + 1) in
    let there = here + (operand_len c + 1 + sts_len rest) in
    let z : h1 + 1 + sts_len rest ≡ there = omega arith in
    taken_on f g e (λ r. PutW r (width_bytes w) o) (λ v. flat_writable g.writable (flat_meaning g rest (to_cur o w v a))) here there cr post a s regs fit.2 h tied
    (λ v after hx t. may_write f g s.writable g.writable _ (h1 + 1) there (cr ++ post) post (at (recorded o w v s) (h1 + 1) after) (flat_meaning g rest (to_cur o w v a)) (h.writable fit.0)
    (here_is h1 (PutW r (width_bytes w) o) (cr ++ post) s after ∙ ap (λ x. follow x (run (h1 + 1) (cr ++ post))) (cur_step r o w v h1 f s after fit.1 h.window h.size hx))
    (carries_from f g _ _ _ there post (flat_meaning g rest (to_cur o w v a)) refl z
    (sts_right f g rest (h1 + 1) post (to_cur o w v a) (recorded o w v s) after fit.3 (agrees_cur f g a s o w v fit.0 fit.1 h) t)))
sts_right f g (x.choose e first other rest) here post a s regs fit h tied =
    let c = code_of e in
    let r = code_right f g a s h e fit.0.0 in
    let n = sts_len other in
    let h1 = here + c.branch_len in
    let h2 = h1 + sts_len first in
    let b = leaves first in
    let h3 = h2 + over_len b n in
    let out = h3 + n in
    let cc = c.branch false h3 8 here in
    let cf = sts_code first h1 in
    let ov = over b n out in
    let co = sts_code other h3 in
    let cr = sts_code rest out in
    let q = cr ++ post in
    let p1 = cf ++ (ov ++ (co ++ q)) in
    let o = word (flat_value g a e) in
    let ma = flat_meaning g first a in
    let mb = flat_meaning g other a in
    let start = run here ((cc ++ (cf ++ (ov ++ (co ++ cr)))) ++ post) (at s here regs) in
    let flat : (cc ++ (cf ++ (ov ++ (co ++ cr)))) ++ post ≡ cc ++ (cf ++ (ov ++ (co ++ (cr ++ post)))) = simp append_assoc in
    let there = here + (c.branch_len + sts_len first + over_len b n + n + sts_len rest) in
    let z : out + sts_len rest ≡ there = omega arith in
    let longf : h2 ≡ h1 + length cf = omega (arith, sts_long first (fits_low f first fit.1) h1) in
    given_on f g o (λ v. flat_then (flat_pick v ma mb) (flat_meaning g rest)) start there post (Jump start false h3 h1 8 p1 s regs)
    (jump_from _ start false h3 h1 h1 8 p1 s regs o (ap (λ l. run here l (at s here regs)) flat) refl
    (r.branch false h3 8 here p1 regs tied (omega arith) (omega (arith, fit.0.1)) (omega arith)))
    (λ v j. then_on f g (flat_pick v ma mb) (flat_meaning g rest) start out there q post
    (picked f g b v ma mb start h1 h2 n out cf co q a s regs (ended g first a) longf (sts_long other (fits_low f other fit.2) h3) refl tied j
    (λ after t. sts_right f g first h1 (ov ++ (co ++ q)) a s after fit.1 h t)
    (λ after t. sts_right f g other h3 q a s after fit.2 h t))
    (λ a2 s2 regs2 h2 t2. carries_from f g _ _ _ there post (flat_meaning g rest a2) refl z (sts_right f g rest out post a2 s2 regs2 fit.3 h2 t2)))
sts_right f g (x.done rest) here post a s regs fit h tied =
    here_is here Return (sts_code rest (here + 1) ++ post) s regs ∙ ap (λ b. m.Done b s.pad) h.bytes ∙ ap (λ p. m.Done (left_bytes f a.record_bytes) p) h.pad
sts_right f g (x.go e rest) here post a s regs fit h tied =
    let c = code_of e in
    let h1 = here + operand_len c in
    let r = operand c.home 8 in
    let cr = sts_code rest (h1 + 1) in
    taken_on f g e NextIter (λ v. Ends (i.Goes v a.record_bytes a.pad)) here _ cr post a s regs fit.0 h tied
    (λ v after hx t.
    let q : step (NextIter r) (at s h1 after) ≡ m.Ends (m.Goes v s.bytes s.pad) = rw hx in
    here_is h1 (NextIter r) (cr ++ post) s after ∙ ap (λ x. follow x (run (h1 + 1) (cr ++ post))) q ∙ ap (λ b. m.Goes v b s.pad) h.bytes ∙ ap (λ p. m.Goes v (left_bytes f a.record_bytes) p) h.pad)
