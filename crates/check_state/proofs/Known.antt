-- Accesses of a list are of pieces and nodes that are there, and so are those in its tables.
use Rattle.std.proofs.Common.{◌≡◌, ℕ, zero, suc, ◌<◌, Bool, true, false, List, [], ◌∷◌, length, get_or, take, Option, Some, None, refl, sym, ◌∙◌}
use Rattle.std.proofs.lemmas.Option.{slice_get-get_or}
use Rattle.std.specs.List.{find}
use Rattle.std.specs.Option.{option_or}
use Rattle.std.specs.Prelude.{IfSome, if◌then◌else◌}
use Rattle.check_access.specs.ValidView.{NodeAccessAt, Listed, ValidView}
use Rattle.check_access.specs.Views.{View}
use Rattle.check_access.specs.declared.node_access.NodeAccess.{NodeAccess}
use Rattle.check_state.specs.PieceStates.{last_that}
use Rattle.check_state.specs.Internal.Tables.{IsLast, IsFirst}

pub known_piece : (V : View) (accesses : List NodeAccess) → ValidView V → Listed V accesses → (j : ℕ) (a : NodeAccess) → NodeAccessAt accesses j a → a.access.piece < length V.pieces
known_piece V accesses S L j a at = let h = L.has j a at in S.known a.node h.0 a.access h.1

-- as an access is read by its place
pub read_piece : (V : View) (accesses : List NodeAccess) → ValidView V → Listed V accesses → (j : ℕ) (d : NodeAccess) → j < length accesses → (get_or accesses j d).access.piece < length V.pieces
read_piece V accesses S L j d lt = known_piece V accesses S L j (get_or accesses j d) (slice_get-get_or accesses j d lt)

pub read_within : (V : View) (accesses : List NodeAccess) → ValidView V → Listed V accesses → (j : ℕ) (d : NodeAccess) (table : List (Option NodeAccess)) → j < length accesses → length table ≡ length V.pieces → (get_or accesses j d).access.piece < length table
read_within V accesses S L j d table lt size = rw size (read_piece V accesses S L j d lt)

last_in : (test : NodeAccess → Bool) (accesses : List NodeAccess) (j : ℕ) (a : NodeAccess) → last_that test (take j accesses) ≡ Some a → (i : ℕ) × NodeAccessAt accesses i a
last_in test [] zero a e = absurd cc
last_in test [] (suc j) a e = absurd cc
last_in test (x ∷ accesses) zero a e = absurd cc
last_in test (x ∷ accesses) (suc j) a e = by (last_that test (take j accesses)) (λ h. last_in test accesses j a h) (test x) e
  where
    by : (later : Option NodeAccess) → (later ≡ Some a → (i : ℕ) × NodeAccessAt accesses i a) → (b : Bool) → option_or later (if b then Some x else None) ≡ Some a → (i : ℕ) × NodeAccessAt (x ∷ accesses) i a
    by (Some y) rest b f = let t = rest f in (suc t.0, t.1)
    by None rest true f = (0, f)
    by None rest false f = absurd cc

first_in : (test : NodeAccess → Bool) (accesses : List NodeAccess) (a : NodeAccess) → find test accesses ≡ Some a → (i : ℕ) × NodeAccessAt accesses i a
first_in test [] a e = absurd cc
first_in test (x ∷ accesses) a e = by (λ h. first_in test accesses a h) (test x) e
  where
    by : (find test accesses ≡ Some a → (i : ℕ) × NodeAccessAt accesses i a) → (b : Bool) → (if b then Some x else find test accesses) ≡ Some a → (i : ℕ) × NodeAccessAt (x ∷ accesses) i a
    by rest true f = (0, f)
    by rest false f = let t = rest f in (suc t.0, t.1)

some_known : (V : View) (accesses : List NodeAccess) → Listed V accesses → (o : Option NodeAccess) → ((a : NodeAccess) → o ≡ Some a → (i : ℕ) × NodeAccessAt accesses i a) → IfSome o (λ a. a.node < length V.nodes)
some_known V accesses L None at = tt
some_known V accesses L (Some a) at = let t = at a refl in L.node t.0 a t.1

pub last_known : (V : View) (accesses : List NodeAccess) → Listed V accesses → (test : ℕ → NodeAccess → Bool) (pieces j p : ℕ) (table : List (Option NodeAccess)) → IsLast test pieces (take j accesses) table → p < pieces → IfSome (get_or table p None) (λ a. a.node < length V.nodes)
last_known V accesses L test pieces j p table T lt = some_known V accesses L (get_or table p None) (λ a e. last_in (test p) accesses j a (sym (T.each p lt) ∙ e))

pub first_known : (V : View) (accesses : List NodeAccess) → Listed V accesses → (test : ℕ → NodeAccess → Bool) (pieces p : ℕ) (table : List (Option NodeAccess)) → IsFirst test pieces accesses table → p < pieces → IfSome (get_or table p None) (λ a. a.node < length V.nodes)
first_known V accesses L test pieces p table T lt = some_known V accesses L (get_or table p None) (λ a e. first_in (test p) accesses a (sym (T.each p lt) ∙ e))
