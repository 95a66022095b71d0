-- The resource of a unit.
use Rattle.std.proofs.Common.{subst, suc, ◌≡◌, ℕ, ◌+◌, ◌-◌, ◌<◌, ◌≤◌, nat_lt, List, [], ◌∷◌, length, get_or, slice_get, Bool, true, false, Option, Some, IfSome, refl, sym, ap, ◌∙◌, arith, replicate}
use Rattle.std.specs.List.{flat_map}
use Rattle.std.proofs.lemmas.Bool.{ltb-true, ltb-false}
use Rattle.std.proofs.lemmas.List.{length-replicate, get_or_append_left, get_or-append_right, get_or-replicate}
use Rattle.std.proofs.lemmas.Option.{slice_get_read}
use Rattle.frame.proofs.Small.{length_units, owners_are}
use Rattle.frame.specs.Resolved.{resolved_of}
use Rattle.frame.specs.Units.{Unit, layers_of, units, units_from, unit_from, owners}
use Rattle.frame.specs.declared.frame.Frame.{Frame}
use Rattle.frame.specs.declared.frame.Resource.{Resource}
use Rattle.frame.specs.declared.valid.Resolved.{Resolved}

-- o is the number, from i on, of the resource of unit u
record IsOwner (rs : List Resource) (i u o : ℕ) : Type 0 where
  least : i ≤ o
  most : o < i + length rs
  same : (e : Unit) (r : Resource) → get_or (flat_map units_from rs) u e ≡ unit_from (get_or rs (o - i) r)

owned : (rs : List Resource) (i u d : ℕ) → u < layers_of rs → IsOwner rs i u (get_or (owners i rs) u d)
owned [] i u d lt = absurd (omega arith)
owned (r ∷ rs) i u d lt = by_place (nat_lt u r.layers) refl (λ less. owned rs (suc i) (u - r.layers) d less)
  where
    by_place : (b : Bool) → nat_lt u r.layers ≡ b → (u - r.layers < layers_of rs → IsOwner rs (suc i) (u - r.layers) (get_or (owners (suc i) rs) (u - r.layers) d)) → IsOwner (r ∷ rs) i u (get_or (owners i (r ∷ rs)) u d)
    by_place true e more =
        let less : u < r.layers = ltb-true u r.layers e in
        let inside : u < length (replicate r.layers i) = subst (λ n. u < n) (sym (length-replicate r.layers i)) less in
        let inside-units : u < length (units_from r) = subst (λ n. u < n) (sym (length-replicate r.layers (unit_from r))) less in
        let is : get_or (owners i (r ∷ rs)) u d ≡ i = get_or_append_left (replicate r.layers i) (owners (suc i) rs) d u inside ∙ get_or-replicate r.layers u i d less in
        subst (λ o. IsOwner (r ∷ rs) i u o) (sym is) (record {
          least = omega arith;
          most = omega arith;
          same = λ f s. get_or_append_left (units_from r) (flat_map units_from rs) f u inside-units ∙ get_or-replicate r.layers u (unit_from r) f less ∙ (let none : i - i ≡ 0 = omega arith in ap (λ k. unit_from (get_or (r ∷ rs) k s)) (sym none));
        })
    by_place false e more =
        let least : r.layers ≤ u = ltb-false u r.layers e in
        let all : u < r.layers + layers_of rs = lt in
        let there = more (omega arith) in
        let o = get_or (owners (suc i) rs) (u - r.layers) d in
        let is : get_or (owners i (r ∷ rs)) u d ≡ o = get_or-append_right (replicate r.layers i) (owners (suc i) rs) r.layers u d (length-replicate r.layers i) least in
        let from : suc i ≤ o = there.least in
        let to : o < suc i + length rs = there.most in
        let step : o - i ≡ suc (o - suc i) = omega arith in
        subst (λ q. IsOwner (r ∷ rs) i u q) (sym is) (record {
          least = omega arith;
          most = omega arith;
          same = λ f s. get_or-append_right (units_from r) (flat_map units_from rs) r.layers u f (length-replicate r.layers (unit_from r)) least ∙ there.same f s ∙ ap (λ k. unit_from (get_or (r ∷ rs) k s)) (sym step);
        })

of_frame : (frame : Frame) (resolved : Resolved) (u o : ℕ) → resolved ≡ resolved_of frame → u < length (units frame) → o ≡ get_or resolved.owners u o → IsOwner frame.resources 0 u o
of_frame frame resolved u o same lt is =
    let inside : u < layers_of frame.resources = subst (λ n. u < n) (length_units frame.resources) lt in
    subst (λ q. IsOwner frame.resources 0 u q) (sym (is ∙ ap (λ p. get_or p.owners u o) same)) (owned frame.resources 0 u o inside)

pub owner_within : (frame : Frame) (resolved : Resolved) (u o : ℕ) → resolved ≡ resolved_of frame → u < length (units frame) → o ≡ get_or resolved.owners u o → o < length frame.resources
owner_within frame resolved u o same lt is = let most : o < 0 + length frame.resources = (of_frame frame resolved u o same lt is).most in omega arith

pub unit_owned : (frame : Frame) (resolved : Resolved) (u o : ℕ) (r : Resource) → resolved ≡ resolved_of frame → u < length (units frame) → o ≡ get_or resolved.owners u o → r ≡ get_or frame.resources o r → slice_get (units frame) u ≡ Some (unit_from r)
unit_owned frame resolved u o r same lt is resource =
    let none : o - 0 ≡ o = omega arith in
    slice_get_read (units frame) (length (units frame)) u (unit_from r) refl lt (ap unit_from resource ∙ ap (λ k. unit_from (get_or frame.resources k r)) (sym none) ∙ sym ((of_frame frame resolved u o same lt is).same (unit_from r) r))

pub has_owner : (frame now : Frame) (resolved : Resolved) (u : ℕ) → frame ≡ now → resolved ≡ resolved_of frame → u < length (units now) → u < length resolved.owners
has_owner frame now resolved u view same lt = subst (λ n. u < n) (sym (ap (λ p. length p.owners) same ∙ owners_are frame ∙ ap (λ f. length (units f)) view)) lt

pub import_got : (frame now : Frame) (resolved : Resolved) (u o : ℕ) (r : Resource) (x : Option (List ℕ)) → frame ≡ now → resolved ≡ resolved_of frame → u < length (units now) → o ≡ get_or resolved.owners u o → r ≡ get_or frame.resources o r → x ≡ r.import → IfSome (slice_get (units now) u) (λ y. x ≡ y.imported)
import_got frame now resolved u o r x view same lt is resource has =
    let inside : u < length (units frame) = subst (λ f. u < length (units f)) (sym view) lt in
    let got : slice_get (units now) u ≡ Some (unit_from r) = subst (λ f. slice_get (units f) u ≡ Some (unit_from r)) view (unit_owned frame resolved u o r same inside is resource) in
    subst (λ g. IfSome g (λ y. x ≡ y.imported)) (sym got) has
