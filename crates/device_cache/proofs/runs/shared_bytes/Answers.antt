use Rattle.std.proofs.Common.{◌≡◌, ◌∙◌, ℕ, ◌+◌, ◌-◌, ◌<◌, ◌≤◌, [], length, drop, get_or, sym, ap, subst, arith}
use Rattle.std.proofs.lemmas.List.{length-drop, length-take-le, get_or-take, get_or-drop, get_or_read}
use Rattle.std.proofs.lemmas.Option.{IfSome_then}
use Rattle.device_cache.specs.declared.part.Part.{Part}
use Rattle.device_cache.specs.Places.{row_at}
use Rattle.device_cache.specs.Tables.{byte_in, slot_at}
use Rattle.device_cache.specs.Internal.Kept.{PartFits}
use Rattle.device_cache.proofs.Running.{seen_fits}
use Rattle.device_cache.proofs.runs.shared_bytes.Goals as goal

-- the part has bytes for all addresses
fits : (c : goal.After-part) (x : ℕ) → c.args.from ≤ x → x < c.args.from + c.args.len → PartFits c.args.slots.now c.in_ok-part.part x
fits c x low high =
    let P : Part → Type 0 = λ p. PartFits c.args.slots.now p x in
    subst P (c.in_ok-part.ensures x low high) (seen_fits c.args.slots.now (row_at c.args.segments.now x) c.args.agent x c.requires.agent (c.requires.there x low high).fits)

slot : (c : goal.After-part) → c.index-slots-part.result ≡ slot_at c.args.slots.now c.in_ok-part.part.slot
slot c = get_or_read c.args.slots.now c.in_ok-part.part.slot c.index-slots-part.result (fits c c.args.from (omega arith) (omega (arith, c.requires.some))).slot c.index-slots-part.is []

within : (c : goal.After-part) → c.args.from - c.in_ok-part.part.start + c.args.len ≤ length c.index-slots-part.result
within c =
    let first = fits c c.args.from (omega arith) (omega (arith, c.requires.some)) in
    let last = fits c (c.args.from + c.args.len - 1) (omega (arith, c.requires.some)) (omega (arith, c.requires.some)) in
    omega (arith, first.from, last.to, c.requires.some, ap length (slot c))

pub returns-clause-len : goal.returns-clause-len
returns-clause-len c =
    let first = c.args.from - c.in_ok-part.part.start in
    let bytes = c.index-slots-part.result in
    let n = c.args.len in
    let same : first + n - first ≡ n = omega arith in
    IfSome_then c.part.result c.part.ensures (λ xs is. ap length is ∙ length-take-le (first + n - first) (drop first bytes) (omega (arith, same, within c, length-drop first bytes)) ∙ same)

pub returns-clause-bytes : goal.returns-clause-bytes
unfolding byte_in
returns-clause-bytes c =
    let p = c.in_ok-part.part in
    let slots = c.args.slots.now in
    let from = c.args.from in
    let first = from - p.start in
    let bytes = c.index-slots-part.result in
    let n = c.args.len in
    let least = fits c from (omega arith) (omega (arith, c.requires.some)) in
    IfSome_then c.part.result c.part.ensures
    (λ xs is k lt.
    let place : first + k ≡ from + k - p.start = omega (arith, least.from) in
    ap (λ ys. get_or ys k 0) is ∙ get_or-take (first + n - first) (drop first bytes) k 0 (omega (arith, lt)) ∙ get_or-drop first bytes k 0 ∙ ap (λ m. get_or bytes m 0) place ∙ ap (λ ys. get_or ys (from + k - p.start) 0) (slot c) ∙ ap (λ (q : Part). byte_in slots q (from + k)) (sym (c.in_ok-part.ensures (from + k) (omega arith) (omega (arith, lt)))))
