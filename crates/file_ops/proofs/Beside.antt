-- An operation in an object with one more member is read again.
use Rattle.std.proofs.Common.{◌≡◌, ℕ, Bool, true, false, Ordering, Less, Equal, Greater, List, ◌∷◌, Ok, Err, if◌then◌else◌, refl, sym, ap, ◌∙◌, true≢false}
use Rattle.std.specs.Ordering.{nat_cmp, match_ordering}
use Rattle.std.specs.Cmp.Lexicographic.{slice_cmp}
use Rattle.std.specs.Str.{bytes_eq}
use Rattle.base.proofs.Booleans.{or_true}
use Rattle.base.proofs.Lists.{same_bytes}
use Rattle.base.specs.declared.op.Op.{Op}
use Rattle.base.specs.declared.path.Leg.{Leg}
use Rattle.file_json.specs.Parts.{below, others_at, unknown_in}
use Rattle.file_ops.proofs.OpAgain.{Holds, op_others}
use Rattle.file_ops.specs.Kinds.{is_in, members_of, op_kind}
use Rattle.file_ops.specs.OpWriting.{op_members}
use Rattle.serde_json.specs.Data.{Data, object, Members, no_members, member, put}
use Rattle.serde_json.proofs.Views.{get_member-put_other}

module _ (k : List ℕ) (v : Data) where
  module _ (known : List (List ℕ)) (at : List Leg) where
    passes : (b : Bool) (name : List ℕ) (ms : Members) → (if b then unknown_in known at ms else Err (below at name)) ≡ Ok tt → (b ≡ true) × (unknown_in known at ms ≡ Ok tt)
    passes true name ms e = (refl, e)
    passes false name ms e = absurd cc

    one_more : (ms : Members) → unknown_in known at ms ≡ Ok tt → unknown_in (k ∷ known) at ms ≡ Ok tt
    one_more no_members e = refl
    one_more (member l d ms) e =
        let parts = passes (is_in known l) l ms e in
        rw (parts.0, or_true (bytes_eq k l)) (one_more ms parts.1)

    put_at : (o : Ordering) (l : List ℕ) (d : Data) (ms : Members) → unknown_in known at (member l d ms) ≡ Ok tt → unknown_in (k ∷ known) at (put k v ms) ≡ Ok tt → unknown_in (k ∷ known) at (match_ordering o (member k v (member l d ms)) (member l v ms) (member l d (put k v ms))) ≡ Ok tt
    put_at Less l d ms e later = rw (same_bytes k) (one_more (member l d ms) e)
    put_at Equal l d ms e later = one_more (member l v ms) e
    put_at Greater l d ms e later = rw ((passes (is_in known l) l ms e).0, or_true (bytes_eq k l)) later

    unknown_in-put : (ms : Members) → unknown_in known at ms ≡ Ok tt → unknown_in (k ∷ known) at (put k v ms) ≡ Ok tt
    unknown_in-put no_members e = rw (same_bytes k) refl
    unknown_in-put (member l d ms) e = put_at (slice_cmp nat_cmp k l) l d ms e (unknown_in-put ms (passes (is_in known l) l ms e).1)

  module _ {R : Type 0} (writes : R → Data) (o : Op R) where
    pub holds_beside : is_in (members_of (op_kind o)) k ≡ false → Holds writes o (object (put k v (op_members writes o)))
    holds_beside new name known = get_member-put_other name k v (op_members writes o) (λ same. true≢false (sym known ∙ ap (is_in (members_of (op_kind o))) same ∙ new))

    pub others_beside : (at : List Leg) → others_at (k ∷ members_of (op_kind o)) at (object (put k v (op_members writes o))) ≡ Ok tt
    others_beside at = unknown_in-put (members_of (op_kind o)) at (op_members writes o) (op_others writes at o)
