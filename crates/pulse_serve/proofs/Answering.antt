-- What keeps the answers of a client, and the first request that has none.
use Rattle.std.proofs.Common.{◌≡◌, ◌≤◌, ◌<◌, ℕ, zero, suc, ◌+◌, Bool, true, false, cond, List, [], ◌∷◌, ◌++◌, length, map, take, get_or, slice_get, Option, Some, None, nat_eq, refl, sym, ap, subst, ◌∙◌, arith}
use Rattle.std.specs.Option.{option_map}
use Rattle.pulse_base.specs.declared.answer.Answer.{Answer}
use Rattle.frame_codec.specs.declared.frame.Back.{Back}
use Rattle.run_rules.specs.declared.client.Asking.{Asking}
use Rattle.run_rules.specs.declared.client.Asking.TheVariants as asking
use Rattle.run_rules.specs.declared.client.Terms.{Terms}
use Rattle.run_rules.specs.declared.client.Heard.{Heard}
use Rattle.run_rules.specs.Client.{tick, hear, answer_of}
use Rattle.run_rules.specs.Waiting.{Each}
use Rattle.client_core.specs.declared.request.Request.{Request}
use Rattle.client_core.specs.Requests.{ClientState, find, put, with_asking}
use Rattle.client_core.specs.Calls.{Does, Hears, asks}
use Rattle.pulse_base.specs.Link.{Sent}
use Rattle.pulse_serve.specs.ClientRun.{numbers, IsAnswer, FindsAnswer, HasAnswer, AllAnswered, Asks, Ticks}
use Rattle.pulse_serve.specs.inner.Asking.{AnsweredBefore, KeepsAnswers}

-- ---- one request stands otherwise

keeps_put : (qs : List Request) (k : ℕ) (a : Asking) (n : ℕ) → ((q : Request) → find qs k ≡ Some q → IsAnswer (answer_of q.asking) → IsAnswer (answer_of a)) → FindsAnswer (find qs n) → FindsAnswer (find (put qs k a) n)
keeps_put [] k a n f h = h
keeps_put (q ∷ qs) k a n f h = by (λ g was. keeps_put qs k a n g was) (nat_eq k q.plan.number) (nat_eq n q.plan.number) refl refl
  where
    by : (((x : Request) → find qs k ≡ Some x → IsAnswer (answer_of x.asking) → IsAnswer (answer_of a)) → FindsAnswer (find qs n) → FindsAnswer (find (put qs k a) n))
        → (x y : Bool) → nat_eq k q.plan.number ≡ x → nat_eq n q.plan.number ≡ y → FindsAnswer (find (put (q ∷ qs) k a) n)
    by later true true e d =
        let found : find (q ∷ qs) k ≡ Some q = ap (λ b. cond b (Some q) (find qs k)) e in
        let was : FindsAnswer (Some q) = subst (λ b. FindsAnswer (cond b (Some q) (find qs n))) d h in
        subst (λ b. FindsAnswer (find (cond b (record q { asking = a } ∷ qs) (q ∷ put qs k a)) n)) (sym e)
        (subst (λ b. FindsAnswer (cond b (Some (record q { asking = a })) (find qs n))) (sym d) (f q found was))
    by later true false e d =
        let was : FindsAnswer (find qs n) = subst (λ b. FindsAnswer (cond b (Some q) (find qs n))) d h in
        subst (λ b. FindsAnswer (find (cond b (record q { asking = a } ∷ qs) (q ∷ put qs k a)) n)) (sym e)
        (subst (λ b. FindsAnswer (cond b (Some (record q { asking = a })) (find qs n))) (sym d) was)
    by later false true e d =
        let was : FindsAnswer (Some q) = subst (λ b. FindsAnswer (cond b (Some q) (find qs n))) d h in
        subst (λ b. FindsAnswer (find (cond b (record q { asking = a } ∷ qs) (q ∷ put qs k a)) n)) (sym e)
        (subst (λ b. FindsAnswer (cond b (Some q) (find (put qs k a) n))) (sym d) was)
    by later false false e d =
        let was : FindsAnswer (find qs n) = subst (λ b. FindsAnswer (cond b (Some q) (find qs n))) d h in
        let skip : find (q ∷ qs) k ≡ find qs k = ap (λ b. cond b (Some q) (find qs k)) e in
        subst (λ b. FindsAnswer (find (cond b (record q { asking = a } ∷ qs) (q ∷ put qs k a)) n)) (sym e)
        (subst (λ b. FindsAnswer (cond b (Some q) (find (put qs k a) n))) (sym d) (later (λ x z. f x (skip ∙ z)) was))

either : (b : Bool) (f : Request → ℕ) (x y z : List Request) → map f x ≡ map f z → map f y ≡ map f z → map f (cond b x y) ≡ map f z
either true f x y z p q = p
either false f x y z p q = q

numbers_put : (qs : List Request) (k : ℕ) (a : Asking) → map (λ q. q.plan.number) (put qs k a) ≡ map (λ q. q.plan.number) qs
numbers_put [] k a = refl
numbers_put (q ∷ qs) k a = either (nat_eq k q.plan.number) (λ x. x.plan.number) (record q { asking = a } ∷ qs) (q ∷ put qs k a) (q ∷ qs) refl (ap (λ l. q.plan.number ∷ l) (numbers_put qs k a))

put_keeps : (c : ClientState) (k : ℕ) (a : Asking) → ((q : Request) → find c.requests k ≡ Some q → IsAnswer (answer_of q.asking) → IsAnswer (answer_of a)) → KeepsAnswers c (with_asking c k a)
put_keeps c k a f = (numbers_put c.requests k a, λ n h. keeps_put c.requests k a n f h)

same_request : (o : Option Request) (q p : Request) → o ≡ Some q → o ≡ Some p → q ≡ p
same_request o q p d e = cc

does_keeps : {A : Type 0} (c now : ClientState) (k : ℕ) (rule : Request → Asking × A) (x : A) → ((q : Request) → IsAnswer (answer_of q.asking) → IsAnswer (answer_of (rule q).0)) → Does c now k rule x → KeepsAnswers c now
does_keeps c now k rule x f d =
    subst (KeepsAnswers c) (sym d.leaves)
    (put_keeps c k (rule d.request).0 (λ q e h. f d.request (subst (λ (y : Request). IsAnswer (answer_of y.asking)) (same_request (find c.requests k) q d.request e d.found) h)))

-- ---- the rules

tick_keeps : (t : Terms) (a : Asking) → IsAnswer (answer_of a) → IsAnswer (answer_of (tick t a).0)
tick_keeps t asking.NotAsked h = absurd (h)
tick_keeps t (asking.Waiting l x y) h = absurd (h)
tick_keeps t (asking.Answered a) h = h

hear_keeps : (t : Terms) (b : Back) (a : Asking) → IsAnswer (answer_of a) → IsAnswer (answer_of (hear t b a).0)
hear_keeps t b asking.NotAsked h = absurd (h)
hear_keeps t b (asking.Waiting l x y) h = absurd (h)
hear_keeps t b (asking.Answered a) h = h

pub asks_numbers : (port : ℕ) (c : ClientState) (k : ℕ) (now : ClientState) (ss : List Sent) → Asks port c k now ss → numbers now ≡ numbers c
asks_numbers port c k now ss a = ap numbers a.1.leaves ∙ numbers_put c.requests k (asks c a.1.request).0

pub ticks_keep : (port : ℕ) (c : ClientState) (k : ℕ) (now : ClientState) (ss : List Sent) → Ticks port c k now ss → KeepsAnswers c now
ticks_keep port c k now ss t = does_keeps c now k (λ q. tick c.terms q.asking) t.0 (λ q h. tick_keeps c.terms q.asking h) t.1

pub keeps_same : (c now : ClientState) → now ≡ c → KeepsAnswers c now
keeps_same c now e = subst (KeepsAnswers c) (sym e) (refl, λ n h. h)

pub keeps_both : (c d e : ClientState) → KeepsAnswers c d → KeepsAnswers d e → KeepsAnswers c e
keeps_both c d e x y = (y.0 ∙ x.0, λ n h. y.1 n (x.1 n h))

pub hears_keep : (c now : ClientState) (b : Back) (h : Heard) (o : Option Request) → find c.requests b.request ≡ o → Hears c now b h o → KeepsAnswers c now
hears_keep c now b h None e x = keeps_same c now x.1
hears_keep c now b h (Some q) e x =
    subst (KeepsAnswers c) (sym x.1)
    (put_keeps c b.request (hear c.terms b q.asking).0 (λ p d a. hear_keeps c.terms b q.asking (subst (λ (y : Request). IsAnswer (answer_of y.asking)) (same_request (find c.requests b.request) p q d e) a)))

-- ---- places

pub number_at : (qs : List Request) (i n : ℕ) → option_map (λ q. q.plan.number) (slice_get qs i) ≡ Some n → get_or (map (λ q. q.plan.number) qs) i 0 ≡ n
number_at [] i n e = absurd (cc)
number_at (q ∷ qs) zero n e = cc
number_at (q ∷ qs) (suc i) n e = number_at qs i n e

take_one : (l : List ℕ) (i : ℕ) → i < length l → take (suc i) l ≡ take i l ++ get_or l i 0 ∷ []
take_one [] i h = absurd (omega (arith, h))
take_one (x ∷ xs) zero h = refl
take_one (x ∷ xs) (suc i) h = ap (λ l. x ∷ l) (take_one xs i (omega (arith, h)))

pub take_more : (l : List ℕ) (i : ℕ) → i < length l → take (i + 1) l ≡ take i l ++ get_or l i 0 ∷ []
take_more l i h = let one : i + 1 ≡ suc i = omega arith in ap (λ k. take k l) one ∙ take_one l i h

each_end : (P : ℕ → Type 0) (l : List ℕ) (x : ℕ) → Each P l → P x → Each P (l ++ x ∷ [])
each_end P [] x e p = (p, tt)
each_end P (y ∷ ys) x e p = (e.0, each_end P ys x e.1 p)

each_at : (P : ℕ → Type 0) (l : List ℕ) (i : ℕ) → i < length l → Each P l → P (get_or l i 0)
each_at P [] i h e = absurd (omega (arith, h))
each_at P (x ∷ xs) zero h e = e.0
each_at P (x ∷ xs) (suc i) h e = each_at P xs i (omega (arith, h)) e.1

each_to : (P Q : ℕ → Type 0) → ((n : ℕ) → P n → Q n) → (l : List ℕ) → Each P l → Each Q l
each_to P Q f [] e = tt
each_to P Q f (x ∷ xs) e = (f x e.0, each_to P Q f xs e.1)

numbers_len : (qs : List Request) → length (map (λ q. q.plan.number) qs) ≡ length qs
numbers_len [] = refl
numbers_len (q ∷ qs) = ap suc (numbers_len qs)

pub count_is : (c : ClientState) → length (numbers c) ≡ length c.requests
count_is c = numbers_len c.requests

pub before_more : (c : ClientState) (i : ℕ) → i < length c.requests → AnsweredBefore c i → HasAnswer c (get_or (numbers c) i 0) → AnsweredBefore c (i + 1)
before_more c i h b a = subst (Each (HasAnswer c)) (sym (take_more (numbers c) i (omega (arith, h, count_is c)))) (each_end (HasAnswer c) (take i (numbers c)) (get_or (numbers c) i 0) b a)

pub one_open : (c : ClientState) (i : ℕ) → i < length c.requests → (HasAnswer c (get_or (numbers c) i 0) → ⊥) → AllAnswered c → ⊥
one_open c i h unanswered all = unanswered (each_at (HasAnswer c) (numbers c) i (omega (arith, h, count_is c)) all)

take_all : (l : List ℕ) (i : ℕ) → length l ≤ i → take i l ≡ l
take_all [] zero h = refl
take_all [] (suc i) h = refl
take_all (x ∷ xs) zero h = absurd (omega (arith, h))
take_all (x ∷ xs) (suc i) h = ap (λ l. x ∷ l) (take_all xs i (omega (arith, h)))

pub taken_all : (c : ClientState) (i : ℕ) → length c.requests ≤ i → take i (numbers c) ≡ numbers c
taken_all c i h = take_all (numbers c) i (omega (arith, h, count_is c))

pub before_all : (c : ClientState) (i : ℕ) → length c.requests ≤ i → AnsweredBefore c i → AllAnswered c
before_all c i h b = subst (Each (HasAnswer c)) (taken_all c i h) b

pub before_keeps : (c now : ClientState) (i : ℕ) → KeepsAnswers c now → AnsweredBefore c i → AnsweredBefore now i
before_keeps c now i k b = subst (λ l. Each (HasAnswer now) (take i l)) (sym k.0) (each_to (HasAnswer c) (HasAnswer now) k.1 (take i (numbers c)) b)

-- ---- an answer that was told

pub told : (o : Option Request) (a : Answer) → option_map (λ q. answer_of q.asking) o ≡ Some a → IsAnswer a → FindsAnswer o
told None a e h = absurd (cc)
told (Some q) a e h = let same : a ≡ answer_of q.asking = cc in subst IsAnswer same h

pub tells : (o : Option Request) (a : Answer) → option_map (λ q. answer_of q.asking) o ≡ Some a → FindsAnswer o → IsAnswer a
tells None a e h = absurd (h)
tells (Some q) a e h = let same : answer_of q.asking ≡ a = cc in subst IsAnswer same h

-- the answer of the request at a place
pub answer_at : (c : ClientState) (i n : ℕ) (a b : Answer) → option_map (λ q. q.plan.number) (slice_get c.requests i) ≡ Some n → option_map (λ q. answer_of q.asking) (find c.requests n) ≡ Some a → a ≡ b → IsAnswer b → HasAnswer c (get_or (numbers c) i 0)
answer_at c i n a b e d is h = subst (HasAnswer c) (sym (number_at c.requests i n e)) (told (find c.requests n) a d (subst IsAnswer (sym is) h))

pub none_at : (c : ClientState) (i n : ℕ) (a b : Answer) → option_map (λ q. q.plan.number) (slice_get c.requests i) ≡ Some n → option_map (λ q. answer_of q.asking) (find c.requests n) ≡ Some a → a ≡ b → HasAnswer c (get_or (numbers c) i 0) → IsAnswer b
none_at c i n a b e d is h = subst IsAnswer is (tells (find c.requests n) a d (subst (HasAnswer c) (number_at c.requests i n e) h))
