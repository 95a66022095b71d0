use Rattle.std.proofs.Common.{◌≡◌, ◌<◌, ℕ, List, true, length, get_or, ap, ◌∙◌, subst, sym, arith}
use Rattle.check_access.proofs.Overlapping.{known_overlapping, each_overlapping}
use Rattle.check_access.specs.Views.{View, overlap, overlapping}
use Rattle.check_access.specs.declared.node_access.NodeAccess.{NodeAccess}
use Rattle.check_sync.specs.Internal.Places.{node_access_at, piece_of}
use Rattle.check_sync.proofs.Walks.{SynchronizedAmong, pieces_more, all_pieces}
use Rattle.check_sync.proofs.listing.Listing.are_pieces_synchronized.Goals as goal

-- what is walked through
listed : (V W : View) (accesses : List NodeAccess) (a : NodeAccess) (j : ℕ) (pieces : List ℕ) → pieces ≡ overlapping V a.access.piece → V ≡ W → a ≡ node_access_at accesses j → pieces ≡ overlapping W (piece_of accesses j)
listed V W accesses a j pieces e v h = e ∙ ap (λ u. overlapping u a.access.piece) v ∙ ap (λ b. overlapping W b.access.piece) h

pub is_chain_synchronized-requires-clause-q : goal.is_chain_synchronized-requires-clause-q
is_chain_synchronized-requires-clause-q c =
    subst (λ ps. c.loop-q.q-index < length ps → get_or ps c.loop-q.q-index 0 < length c.args.self.now.view.pieces)
    (sym (listed _ c.args.self.now.view c.args.self.now.accesses c.access-piece.result c.args.j c.overlapping-q-items.result.now c.overlapping-q-items.ensures (ap (λ l. l.view) c.self.view_is) c.access-piece.ensures.is))
    (known_overlapping c.args.self.now.view (piece_of c.args.self.now.accesses c.args.j) c.loop-q.q-index 0) c.loop-q-test.true

pub is_chain_synchronized-requires-clause-over : goal.is_chain_synchronized-requires-clause-over
is_chain_synchronized-requires-clause-over c =
    subst (λ ps. c.loop-q.q-index < length ps → overlap c.args.self.now.view (piece_of c.args.self.now.accesses c.args.j) (get_or ps c.loop-q.q-index 0) ≡ true)
    (sym (listed _ c.args.self.now.view c.args.self.now.accesses c.access-piece.result c.args.j c.overlapping-q-items.result.now c.overlapping-q-items.ensures (ap (λ l. l.view) c.self.view_is) c.access-piece.ensures.is))
    (each_overlapping c.args.self.now.view (piece_of c.args.self.now.accesses c.args.j) c.loop-q.q-index 0) c.loop-q-test.true

pub loop-q-preserved : goal.loop-q-preserved
loop-q-preserved c = pieces_more c.args.self.now.view c.args.self.now.accesses c.args.chain.now.loads c.args.j c.overlapping-q-items.result.now c.loop-q.q-index 0 c.loop-q-test.true c.loop-q.invariant (c.is_chain_synchronized.ensures c.if-not-is_chain_synchronized.false)

pub returns : goal.returns
returns c = λ same.
    let all : c.loop-q.q-index ≡ length c.overlapping-q-items.result.now = omega (arith, c.loop-q-test.false, c.loop-q.auto.q-index-end) in
    all_pieces c.args.self.now.view c.args.self.now.accesses c.args.chain.now.loads c.args.j c.access-piece.ensures.listing.shaped c.access-piece.ensures.listing.listed c.requires.j
    (subst (λ ps. SynchronizedAmong c.args.self.now.view c.args.self.now.accesses c.args.chain.now.loads c.args.j ps (length ps))
    (listed _ c.args.self.now.view c.args.self.now.accesses c.access-piece.result c.args.j c.overlapping-q-items.result.now c.overlapping-q-items.ensures (ap (λ l. l.view) c.self.view_is) c.access-piece.ensures.is)
    (subst (SynchronizedAmong c.args.self.now.view c.args.self.now.accesses c.args.chain.now.loads c.args.j c.overlapping-q-items.result.now) all c.loop-q.invariant))
