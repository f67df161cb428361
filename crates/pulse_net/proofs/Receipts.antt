-- The traffic of a link in memory after one more receive.
use Rattle.std.proofs.Common.{◌≡◌, ◌≤◌, ◌<◌, ℕ, zero, suc, Bool, List, [], ◌∷◌, ◌++◌, length, map, drop, slice_get, Option, Some, None, Result, Ok, subst, refl, sym, ap, ◌∙◌, arith}
use Rattle.pulse_base.specs.Link.{Traffic, Receipt, receive, Receives, Answers, next_item, later_items}
use Rattle.pulse_base.specs.declared.source.Failed.{Failed}
use Rattle.pulse_base.specs.declared.link.Got.{Got}
use Rattle.pulse_base.specs.Link as link
use Rattle.pulse_net.specs.declared.item.Item.{Item}
use Rattle.pulse_net.specs.declared.item.Sent.{Sent}
use Rattle.pulse_net.specs.Links.{item_of, waits_of, receipts, traffic_of}

pub waits_are : (items : List link.Item) (ws : List Bool) → waits_of (receipts items ws) ≡ ws
waits_are items [] = refl
waits_are items (w ∷ ws) = ap (λ l. w ∷ l) (waits_are (later_items items) ws)

none_left : (n : ℕ) → drop {A = Item} n [] ≡ []
none_left zero = refl
none_left (suc n) = refl

incoming : (items : List Item) (ws : List Bool) (w : Bool) → map item_of (drop (length (ws ++ w ∷ [])) items) ≡ later_items (map item_of (drop (length ws) items))
incoming [] ws w = ap (map item_of) (none_left (length (ws ++ w ∷ []))) ∙ sym (ap (λ l. later_items (map item_of l)) (none_left (length ws)))
incoming (i ∷ is) [] w = refl
incoming (i ∷ is) (v ∷ vs) w = incoming is vs w

abbrev next_receipt : List Item → List Bool → Bool → Receipt
next_receipt items ws w = record { wait = w; item = next_item (map item_of (drop (length ws) items)) }

taken : (items : List Item) (ws : List Bool) (w : Bool) → receipts (map item_of items) (ws ++ w ∷ []) ≡ receipts (map item_of items) ws ++ next_receipt items ws w ∷ []
taken items [] w = refl
taken [] (v ∷ vs) w =
    ap (λ l. record { wait = v; item = link.gap } ∷ l) (taken [] vs w ∙ ap (λ l. receipts [] vs ++ record { wait = w; item = next_item (map item_of l) } ∷ []) (none_left (length vs)))
taken (i ∷ is) (v ∷ vs) w = ap (λ l. record { wait = v; item = item_of i } ∷ l) (taken is vs w)

pub received : (items : List Item) (ws : List Bool) (sent : List Sent) (bound : List ℕ) (w : Bool) → traffic_of items (ws ++ w ∷ []) sent bound ≡ receive (traffic_of items ws sent bound) w
received items ws sent bound w =
    ap (λ l. record (traffic_of items ws sent bound) { incoming = l; taken = receipts (map item_of items) (ws ++ w ∷ []) }) (incoming items ws w)
    ∙ ap (λ l. record (traffic_of items ws sent bound) { incoming = later_items (map item_of (drop (length ws) items)); taken = l }) (taken items ws w)

pub next_is : (items : List Item) (n : ℕ) (i : Item) → slice_get items n ≡ Some i → next_item (map item_of (drop n items)) ≡ item_of i
next_is [] n i e = absurd (cc)
next_is (j ∷ js) zero i e = ap item_of (cc)
next_is (j ∷ js) (suc n) i e = next_is js n i e

pub next_is_gap : (items : List Item) (n : ℕ) → length items ≤ n → next_item (map item_of (drop n items)) ≡ link.gap
next_is_gap [] n l = ap (λ k. next_item (map item_of k)) (none_left n)
next_is_gap (j ∷ js) zero l = absurd (omega (arith, l))
next_is_gap (j ∷ js) (suc n) l = next_is_gap js n (omega (arith, l))

-- a receive that hands out the next item
pub receives : (items : List Item) (ws : List Bool) (sent : List Sent) (bound : List ℕ) (w : Bool) (t now : Traffic) (buf : List ℕ) (got : Got) (r : Result Got Failed)
    → t ≡ traffic_of items ws sent bound → now ≡ traffic_of items (ws ++ w ∷ []) sent bound → Answers (next_item (map item_of (drop (length ws) items))) buf got → r ≡ Ok got
    → Receives (Some t) (Some now) w buf r
receives items ws sent bound w t now buf got r was is answers ok =
    subst (λ (x : Traffic). Receives (Some x) (Some now) w buf r) (sym was)
    (subst (λ (x : Result Got Failed). Receives (Some (traffic_of items ws sent bound)) (Some now) w buf x) (sym ok)
    (ap Some (is ∙ received items ws sent bound w), answers))
