-- The bytes of compiled programs, where commands load what others stored.
use Rattle.std.proofs.Common.{◌≡◌, ℕ, ◌<◌, ◌&&◌, true, false, length, slice_get, refl, sym, ap, ◌∙◌, subst, arith}
use Rattle.std.specs.Option.{option_map, option_map_or}
use Rattle.std.proofs.lemmas.Bool.{false≢true}
use Rattle.std.proofs.lemmas.Option.{slice_get-map, get_or_from_slice_get}
use Rattle.base.specs.Shapes.{is_buffer, is_image, shape_at}
use Rattle.base.specs.declared.shape.Shape.{Shape}
use Rattle.base.specs.declared.shape.Shape.TheVariants.{Buffer, Image}
use Rattle.law_sound.proofs.Discarding.{discards, discards_image}
use Rattle.law_sound.proofs.Groups.{unit_known, unit_piece}
use Rattle.law_sound.proofs.Pieces.{piece_there}
use Rattle.law_sound.proofs.Setting.{IsSet}
use Rattle.law_sound.proofs.SpotFacts.{spots}
use Rattle.law_sound.proofs.Spots.{piece_is}
use Rattle.law_sound.proofs.Starting.{start}
use Rattle.law_sound.proofs.Storing.{group_stores, stores_known, stores_there}
use Rattle.law_sound.proofs.PrologueAccesses.{prologue_low}
use Rattle.law_sound.specs.Initialized.{IsInitialized}
use Rattle.law_sound.specs.Laws.{ImportsAreAlone}
use Rattle.law_sound.specs.Nodes.{nodes_of}
use Rattle.law_sound.specs.Plan.{plan_of, unit_of}
use Rattle.law_plan.specs.Kinds.{is_plain, is_release}
use Rattle.law_plan.specs.Nodes.{Nodes}
use Rattle.law_plan.specs.Plans.{Plan}
use Rattle.law_plan.specs.Spots.{OfPrologue, Spot, at_prologue, at_member, at_release, at_reader, Spots}
use Rattle.law_plan.specs.States.{Changed}
use Rattle.compile_groups.specs.declared.grouping.Grouping.{Grouping}
use Rattle.compile_record.specs.Pieces.{piece, piece_of}
use Rattle.program.specs.declared.program.Program.{Program}
use Rattle.compile_barriers.specs.Under.{Heap}
use Rattle.check_access.specs.AccessKinds.{is_discard}
use Rattle.check_access.specs.ValidView.{Has}
use Rattle.check_access.specs.Views.{View, imported_at, is_import, overlap, piece_imported, view_of}
use Rattle.check_access.specs.declared.access.Access.{Access}
use Rattle.check_access.specs.declared.access.AccessKind.{AccessKind}
use Rattle.check_access.specs.declared.access.AccessKind.TheVariants as access_kinds

plain_keeps : (kind : AccessKind) → is_plain kind ≡ true → is_discard kind ≡ false
plain_keeps (access_kinds.Load a layout) e = refl
plain_keeps (access_kinds.Store a layout) e = refl
plain_keeps (access_kinds.Transition layouts) e = absurd (false≢true e)
plain_keeps (access_kinds.Discard layout) e = absurd (false≢true e)
plain_keeps (access_kinds.Release handover) e = absurd (false≢true e)
plain_keeps (access_kinds.Acquire handover) e = absurd (false≢true e)

release_keeps : (kind : AccessKind) → is_release kind ≡ true → is_discard kind ≡ false
release_keeps (access_kinds.Load a layout) e = absurd (false≢true e)
release_keeps (access_kinds.Store a layout) e = absurd (false≢true e)
release_keeps (access_kinds.Transition layouts) e = absurd (false≢true e)
release_keeps (access_kinds.Discard layout) e = absurd (false≢true e)
release_keeps (access_kinds.Release handover) e = refl
release_keeps (access_kinds.Acquire handover) e = absurd (false≢true e)

no_buffer : (shape : Shape) → is_image shape ≡ true → is_buffer shape ≡ false
no_buffer (Buffer size) e = absurd (false≢true e)
no_buffer (Image width height texel) e = refl

module _ (G : Grouping) (heap : Heap) (P : Program) (S : IsSet G heap P) where
  abbrev F : Plan
  F = plan_of G heap

  abbrev V : View
  V = view_of P

  abbrev N : Nodes
  N = nodes_of G heap

  all : Spots F V N
  all = spots G heap P S

  spot_piece : (x g : ℕ) (a : Access) → Spot F V N x a g → a.piece ≡ F.piece g
  spot_piece x g a (at_prologue e t) = t.piece
  spot_piece x g a (at_member e m) = m.piece
  spot_piece x g a (at_release e r) = r.piece
  spot_piece x g a (at_reader e r) = r.piece

  alone : ImportsAreAlone F V N → (x p : ℕ) (a : Access) → Has V x a → imported_at V p ≡ true → overlap V a.piece p ≡ true → a.piece ≡ p
  alone imports x p a h im over =
      let T = all.all x a h in
      let on = spot_piece x T.0 a T.1 in
      on ∙ imports T.0 p (all.within x a T.0 T.1) im (subst (λ q. overlap V q p ≡ true) on over)

  -- an image is no import
  image_fresh : (g : ℕ) → g < length G.groups → is_image (shape_at G.shapes (unit_of G g)) ≡ true → imported_at V (piece_of G (unit_of G g)) ≡ false
  image_fresh g lt image =
      let r : ℕ = unit_of G g in
      let low = unit_known G S.grouped S.known g lt in
      let fewer = S.known.shapes in
      let there = ap (λ l. slice_get l (piece_of G r)) S.pieces ∙ piece_there G heap.offsets r (omega (arith, low, fewer)) (unit_piece G S.grouped g lt) in
      get_or_from_slice_get V.imported (piece_of G r) (piece_imported P.memories (piece G heap.offsets r)) false
      (slice_get-map (piece_imported P.memories) P.pieces (piece_of G r) ∙ ap (option_map (piece_imported P.memories)) there)
      ∙ ap (λ b. b && option_map_or is_import (slice_get P.memories (piece G heap.offsets r).memory) false) (no_buffer (shape_at G.shapes r) image)

  discard_fresh : (g : ℕ) (a : Access) → OfPrologue F V N g a → is_discard a.kind ≡ true → imported_at V a.piece ≡ false
  discard_fresh g a O e =
      let lt = (prologue_low G heap P S g a O).recorded.0 in
      ap (imported_at V) (O.piece ∙ piece_is G heap P S g lt) ∙ image_fresh g lt (discards_image G heap P S g a O e)

  undiscarded : (x : ℕ) (a : Access) → Has V x a → is_discard a.kind ≡ true → imported_at V a.piece ≡ false
  undiscarded x a h e = let T = all.all x a h in go T.0 T.1
    where
      go : (g : ℕ) → Spot F V N x a g → imported_at V a.piece ≡ false
      go g (at_prologue i t) = discard_fresh g a t e
      go g (at_member i m) = absurd (false≢true (sym (plain_keeps a.kind m.plain) ∙ e))
      go g (at_release i r) = absurd (false≢true (sym (release_keeps a.kind r.release) ∙ e))
      go g (at_reader i r) = absurd (false≢true (sym (plain_keeps a.kind r.plain) ∙ e))

  pub changed : IsInitialized G → ImportsAreAlone F V N → Changed F V N
  changed initialized imports = record {
    stores = group_stores G heap P S;
    there = stores_there G heap P S;
    known = stores_known G heap P S;
    discards = discards G heap P S;
    start = start G heap P S initialized;
    alone = alone imports;
    undiscarded = undiscarded;
  }
