-- A new node.
use Rattle.std.proofs.Common.{◌≡◌, ℕ, ◌≤◌, List, [], map, Some, None, refl, sym, ap, ◌∙◌, arith}
use Rattle.std.specs.FinMap as m
use Rattle.code_image.specs.declared.image.Image.{Image}
use Rattle.leg_ledger.specs.declared.leg.LegKey.{LegKey}
use Rattle.leg_ledger.specs.Legs.{Legs, key_cmp, reply_in, region_in, running_region}
use Rattle.leg_ledger.proofs.Keys.{key_total, key_same}
use Rattle.run_rules.specs.declared.node.NodeRegion.{NodeRegion}
use Rattle.run_rules.specs.declared.node.LiveLeg.{LiveLeg}
use Rattle.node_core.specs.Part.{IsRegions, IsPart, new_part, sizes_of}
use Rattle.node_core.specs.inner.View.{kept_of, live_region}
use Rattle.node_core.proofs.Ledgers.{kept_gets}

none_kept : (legs : Legs) → legs ≡ m.empty → kept_of legs ≡ m.empty
none_kept legs e = m.same_map key_total key_same _ _ (λ q. kept_gets legs q ∙ ap reply_in (ap (λ z. m.get z q) e ∙ m.get-empty key_cmp q) ∙ sym (m.get-empty key_cmp q))

pub new_view : (regions : List NodeRegion) (images : List Image) (slots : ℕ) (rs : List NodeRegion) (legs : Legs) (live : List LiveLeg) → rs ≡ regions → legs ≡ m.empty → live ≡ []
    → record { node = record { regions = rs; sizes = map sizes_of images; slots = slots; kept = kept_of legs; live = live }; images = images } ≡ new_part regions images slots
new_view regions images slots rs legs live r l e = λ i. record { node = record { regions = r i; sizes = map sizes_of images; slots = slots; kept = none_kept legs l i; live = e i }; images = images }

pub new_fits : (regions : List NodeRegion) (images : List Image) (slots : ℕ) → IsRegions regions → 1 ≤ slots → slots ≤ 64 → IsPart (new_part regions images slots)
new_fits regions images slots h one few = record {
  regions = h;
  sizes = refl;
  some = one;
  slots = few;
  few = omega arith;
  apart = tt;
  live = tt;
  kept = λ q reply e. absurd (let c : None ≡ Some reply = sym (m.get-empty key_cmp q) ∙ e in cc);
}

pub new_running : (legs : Legs) (live : List LiveLeg) → legs ≡ m.empty → live ≡ [] → (q : LegKey) → running_region legs q ≡ live_region live q
new_running legs live e f q = ap region_in (ap (λ z. m.get z q) e ∙ m.get-empty key_cmp q) ∙ sym (ap (λ z. live_region z q) f)
