-- What a rule does to one request, among the entries of a client's map.
use Rattle.std.proofs.Common.{◌≡◌, ℕ, ◌<◌, ◌≤◌, List, length, Option, Some, IfSome, slice_get, slice_set, sym, ap, subst, ◌∙◌}
use Rattle.std.specs.List.{AllByRecursion}
use Rattle.std.specs.Map.{values_of}
use Rattle.std.proofs.lemmas.Option.{slice_get_within}
use Rattle.indexmap.specs.IndexMap.{set_value_at}
use Rattle.frame_codec.specs.declared.frame.Back.{Back}
use Rattle.code_image.specs.declared.image.Image.{Image}
use Rattle.run_rules.specs.declared.client.Terms.{Terms}
use Rattle.run_rules.specs.declared.client.Asking.{Asking}
use Rattle.run_rules.specs.declared.client.Asking.TheVariants.{NotAsked, Waiting, Answered}
use Rattle.run_rules.specs.declared.client.Heard.{Heard}
use Rattle.run_rules.specs.Client as rule
use Rattle.client_core.specs.declared.request.Request.{Request}
use Rattle.client_core.specs.Begins.{begin, begin_by, begin_of}
use Rattle.client_core.specs.Requests.{ClientState, Has, find}
use Rattle.client_core.specs.Calls.{Does, Hears, LegFits}
use Rattle.client_core.specs.inner.Standing.{TermsFit, AskingFits, EntryFits, Goes}
use Rattle.client_core.specs.inner.View.{StandsAt}
use Rattle.client_core.proofs.Places.{values_set, fits_at, number_has}

does_here : {A : Type 0} (t : Terms) (im : List Image) (es : List (ℕ × Request)) (i r : ℕ) (q w : Request) (given : Request → Asking × A) (a : A)
    → slice_get (values_of es) i ≡ Some q → Goes q w (given q) a → StandsAt (values_of es) r i
    → Does (record { terms = t; images = im; requests = values_of es }) (record { terms = t; images = im; requests = values_of (set_value_at es i w) }) r given a
does_here t im es i r q w given a at g s =
    let known = s.at in
    let same : s.request ≡ q = cc in
    record {
      request = q;
      found = s.found ∙ ap Some same;
      answers = g.1;
      leaves = ap (λ l. record { terms = t; images = im; requests = l }) (values_set es i w ∙ ap (slice_set (values_of es) i) g.0 ∙ sym (s.puts (given q).0 ∙ ap (λ (x : Request). slice_set (values_of es) i (record x { asking = (given q).0 })) same));
    }

-- the request at a place does by a rule
pub does_is : {A : Type 0} (t : Terms) (im : List Image) (es : List (ℕ × Request)) (c : ClientState) (i r : ℕ) (q w : Request) (given : ClientState → Request → Asking × A) (a : A)
    → record { terms = t; images = im; requests = values_of es } ≡ c → slice_get (values_of es) i ≡ Some q
    → Goes q w (given (record { terms = t; images = im; requests = values_of es }) q) a → StandsAt c.requests r i
    → Does c (record { terms = t; images = im; requests = values_of (set_value_at es i w) }) r (given c) a
does_is t im es c i r q w given a v at g =
    subst (λ (z : ClientState). StandsAt z.requests r i → Does z (record { terms = t; images = im; requests = values_of (set_value_at es i w) }) r (given z) a) v
    (does_here t im es i r q w (given (record { terms = t; images = im; requests = values_of es })) a at g)

-- the request that a back names hears it
pub hears_is : (c new : ClientState) (b : Back) (a : Heard) → Does c new b.request (λ q. rule.hear c.terms b q.asking) a → Hears c new b a (find c.requests b.request)
hears_is c new b a d = subst (λ o. Hears c new b a o) (sym d.found) (d.answers, d.leaves)

-- the image of a request's program is there
pub program_there : (t : Terms) (im : List Image) (es : List (ℕ × Request)) (i n : ℕ) (q : Request) → AllByRecursion (EntryFits t im) es → slice_get (values_of es) i ≡ Some q → n ≡ q.plan.iter → n < length im
program_there t im es i n q h s e =
    let plan = (fits_at t im es i q h s).0 in
    subst (λ k. k < length im) (sym e) (slice_get_within im q.plan.iter plan.image plan.program)

-- and takes as many arguments
pub program_args : (t : Terms) (im : List Image) (es : List (ℕ × Request)) (i n : ℕ) (p q : Request) (image : Image) → AllByRecursion (EntryFits t im) es → slice_get (values_of es) i ≡ Some p → slice_get (values_of es) i ≡ Some q
    → n ≡ p.plan.iter → slice_get im n ≡ Some image → length q.plan.args.items ≡ image.args
program_args t im es i n p q image h sp sq e si =
    let plan = (fits_at t im es i q h sq).0 in
    let same : p ≡ q = cc in
    let iter : n ≡ q.plan.iter = e ∙ ap (λ (x : Request). x.plan.iter) same in
    let got : slice_get im q.plan.iter ≡ Some image = subst (λ k. slice_get im k ≡ Some image) iter si in
    let known = plan.program in
    let one : plan.image ≡ image = cc in
    plan.args ∙ ap (λ (x : Image). x.args) one

-- its walk begins by that image
pub program_begins : (im : List Image) (es : List (ℕ × Request)) (i n : ℕ) (p q : Request) (image : Image) → slice_get (values_of es) i ≡ Some p → slice_get (values_of es) i ≡ Some q
    → n ≡ p.plan.iter → slice_get im n ≡ Some image → begin image q.plan.args.items ≡ begin_of im q.plan
program_begins im es i n p q image sp sq e si =
    let same : p ≡ q = cc in
    let iter : n ≡ q.plan.iter = e ∙ ap (λ (x : Request). x.plan.iter) same in
    sym (ap (λ o. begin_by o q.plan.args.items) (subst (λ k. slice_get im k ≡ Some image) iter si))

pub resend_fits : (t : Terms) (a : Asking) → TermsFit t → AskingFits t a → IfSome (rule.resend a) LegFits
resend_fits t NotAsked h f = tt
resend_fits t (Waiting leg accepted ticks) h f = subst (λ n. 1 ≤ n) (sym f.1) h.budget
resend_fits t (Answered answer) h f = tt

pub has_number : (t : Terms) (im : List Image) (es : List (ℕ × Request)) (c : ClientState) (i : ℕ) (q : Request) → record { terms = t; images = im; requests = values_of es } ≡ c → slice_get (values_of es) i ≡ Some q → Has c q.plan.number
has_number t im es c i q v s = subst (λ (z : ClientState). Has z q.plan.number) v (number_has (values_of es) i q s)
