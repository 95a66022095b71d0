-- What a device has of a host read.
use Rattle.std.proofs.Common.{◌≡◌, ℕ, ◌<◌, List, [], ◌∷◌, length, get_or, slice_get, slice_set, Bool, true, false, Option, Some, None, if◌then◌else◌, sym, ap, ◌∙◌, subst, arith}
use Rattle.std.specs.Arc.{arc_value}
use Rattle.std.proofs.lemmas.Option.{slice_get-get_or, slice_get_within}
use Rattle.base.specs.Shapes.{bytes_of}
use Rattle.device_cache.specs.Lines.{range}
use Rattle.device_cache.specs.Tables.{InMemory, caches_of}
use Rattle.device_nodes.specs.Controls.{Control, Agrees}
use Rattle.device.proofs.Events.{hosts}
use Rattle.device.proofs.Sights.{read_long, host_reads}
use Rattle.device.proofs.Touching.{piece_known}
use Rattle.device.specs.Internal.Kept.{device_in, IsKept}
use Rattle.device.specs.Internal.Fields.{HasState}
use Rattle.device.specs.Internal.Reads.{read_into}
use Rattle.device.specs.declared.device.Device.TheInside.{Inside}
use Rattle.check_order.specs.Edges.{is_host}
use Rattle.device_model.proofs.HostNodes.{read_entry}
use Rattle.device_model.proofs.Places.{host_at}
use Rattle.device_model.specs.Devices.{state_of}
use Rattle.device_model.specs.Ready.{kind_at, loads_undefined, read_node}
use Rattle.device_model.specs.States.{is_begun, State}
use Rattle.device_model.specs.Steps.{host_takes, hosted}
use Rattle.program.specs.declared.program.Piece.{Piece}
use Rattle.program.specs.declared.program.Program.{Program}
use Rattle.check_access.specs.Effects.{access}
use Rattle.check_access.specs.ValidView.{Has}
use Rattle.check_access.specs.Views.{View, view_of, piece_at, accesses_of}
use Rattle.check_access.specs.declared.access.Agent.TheVariants.{Host}
use Rattle.check_access.specs.declared.access.AccessKind.TheVariants.{Load}

-- a read-back as it is read off the program
pub read_at : (program : Program) (k : ℕ) → k < length program.readbacks → (found : Program) → found ≡ program → (p : ℕ) → p ≡ get_or found.readbacks k p → slice_get program.readbacks k ≡ Some p
read_at program k lt found same p is = slice_get-get_or program.readbacks k p lt ∙ ap Some (sym (is ∙ ap (λ (program : Program). get_or program.readbacks k p) same))

-- read-back k is of piece p
module _ (i : Inside) (K : IsKept i) (k p : ℕ) (at : slice_get (arc_value i.program).readbacks k ≡ Some p) where
  only : accesses_of (view_of (arc_value i.program)) (read_node (arc_value i.program) k) ≡ access p (Load Host None) ∷ []
  only = (host_at (arc_value i.program) (read_node (arc_value i.program) k) p (read_entry (arc_value i.program) k p at)).accesses

  has : Has (view_of (arc_value i.program)) (read_node (arc_value i.program) k) (access p (Load Host None))
  has = (0, ap (λ list. slice_get list 0) only)

  pub by_host : is_host (kind_at (view_of (arc_value i.program)) (read_node (arc_value i.program) k)) ≡ true
  by_host = ap (λ x. is_host x.kind) (host_at (arc_value i.program) (read_node (arc_value i.program) k) p (read_entry (arc_value i.program) k p at)).node

  there : p < length (arc_value i.program).pieces
  there = piece_known (arc_value i.program) K.faultless K.small (read_node (arc_value i.program) k) (access p (Load Host None)) has

  pub piece_there : (v : View) → v ≡ i.control.view → p < length v.pieces
  piece_there v view = subst (λ (v : View). p < length v.pieces) (sym (view ∙ K.view)) there

  module _ (v : View) (view : v ≡ i.control.view) (x : Piece) (read : x ≡ piece_at v p) where
    read_is : x ≡ piece_at (view_of (arc_value i.program)) p
    read_is = read ∙ ap (λ (v : View). piece_at v p) (view ∙ K.view)

    pub room_for : length (get_or i.reads.items k []) ≡ bytes_of x.shape
    room_for = (K.state.has_read.each k p at).room ∙ ap (λ (x : Piece). bytes_of x.shape) (sym read_is)

    pub in_memory : InMemory i.table x.memory x.offset (bytes_of x.shape)
    in_memory = subst (λ (x : Piece). InMemory i.table x.memory x.offset (bytes_of x.shape)) (sym read_is) (K.table.cuts.pieces p there).within

    pub takes : (n : ℕ) → n ≡ read_node (arc_value i.program) k → (junk : Option ℕ) (undefined : Bool) → ((s : State) → Agrees i.control s → undefined ≡ loads_undefined i.control.view s n (access p (Load Host None))) → junk ≡ (if undefined then Some i.fill else None) → read_into junk (range x.memory x.offset (bytes_of x.shape)) (caches_of i.table) ≡ host_takes (view_of (arc_value i.program)) (state_of (device_in i)) n (i.fill ∷ []) (accesses_of (view_of (arc_value i.program)) n)
    takes n node junk undefined test is =
        let V = view_of (arc_value i.program) in
        let s = state_of (device_in i) in
        let C = caches_of i.table in
        let q = piece_at V p in
        let within = (K.table.cuts.pieces p there).within in
        ap (λ (x : Piece). read_into junk (range x.memory x.offset (bytes_of x.shape)) C) read_is
        ∙ ap (λ junk. read_into junk (range q.memory q.offset (bytes_of q.shape)) C) is
        ∙ host_reads (arc_value i.program) C s K.state.bytes n i.fill (access p (Load Host None)) (omega (arith, within.within, K.table.sizes q.memory)) (ap (accesses_of V) node ∙ only) undefined (sym (test s K.state.agrees ∙ ap (λ (v : View). loads_undefined v s n (access p (Load Host None))) K.view))

    -- the state after the read
    pub reads : (n : ℕ) → n ≡ read_node (arc_value i.program) k → (junk : Option ℕ) (undefined : Bool) → ((s : State) → Agrees i.control s → undefined ≡ loads_undefined i.control.view s n (access p (Load Host None))) → junk ≡ (if undefined then Some i.fill else None) → (next : Control) → ((s : State) (junk : List ℕ) → Agrees i.control s → Agrees next (hosted i.control.view s n junk)) → is_begun ((state_of (device_in i)).phase n) ≡ false → (list : List (List ℕ)) → list ≡ slice_set i.reads.items k (read_into junk (range x.memory x.offset (bytes_of x.shape)) (caches_of i.table)) → HasState (arc_value i.program) next i.table i.pending.items list (hosted (view_of (arc_value i.program)) (state_of (device_in i)) n (i.fill ∷ []))
    reads n node junk undefined test is next agrees fresh list set =
        let program = arc_value i.program in
        let s = state_of (device_in i) in
        let bytes = read_into junk (range x.memory x.offset (bytes_of x.shape)) (caches_of i.table) in
        let long : length bytes ≡ bytes_of (piece_at (view_of program) p).shape = read_long junk (range x.memory x.offset (bytes_of x.shape)) (caches_of i.table) ∙ ap (λ (x : Piece). bytes_of x.shape) read_is in
        let inside : k < length i.reads.items = omega (arith, K.state.has_read.count, slice_get_within program.readbacks k p at) in
        subst (λ (list : List (List ℕ)). HasState program next i.table i.pending.items list (hosted (view_of program) s n (i.fill ∷ []))) (sym set)
        (hosts program i.control next i.table i.table i.pending.items i.reads.items s K.state n (i.fill ∷ []) k p node at K.view agrees fresh inside bytes long (takes n node junk undefined test is))
