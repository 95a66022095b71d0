-- What a program without a fault gives to the meaning of its commands.
use Rattle.std.proofs.Common.{◌≡◌, ℕ, ◌<◌, true, false, List, [], ◌∷◌, length, map, replicate, slice_get, Some}
use Rattle.base.specs.Applied.{bytes_at}
use Rattle.base.specs.Operands.{destination_of}
use Rattle.base.specs.Shapes.{bytes_of}
use Rattle.base.specs.declared.op.Op.{Op}
use Rattle.device_cache.specs.Lines.{Bytes}
use Rattle.check_program.specs.Apart.{op_at, first_bytes, after_node}
use Rattle.device_model.specs.Agents.{bytes_in}
use Rattle.device_model.specs.Laws.{HoldsImports}
use Rattle.device_model.specs.Outputs.{stored}
use Rattle.device_model.specs.Ready.{is_command, kind_at, read_node}
use Rattle.device_model.proofs.Formed.{Formed}
use Rattle.device_model.proofs.Cases.{is_store}
use Rattle.device_model.proofs.Stages.{Single}
use Rattle.check_order.specs.Edges.{is_host}
use Rattle.program.specs.declared.program.Program.{Program}
use Rattle.check_access.specs.ValidView.{Has}
use Rattle.check_access.specs.Views.{View, view_of, accesses_of, loads_of, piece_at, imported_at}
use Rattle.check_access.specs.declared.access.Access.{Access}

-- what a node loads where it finds these bytes in pieces
abbrev pub loaded_of : View → (ℕ → ℕ → List ℕ) → ℕ → List (List ℕ)
loaded_of V found n = map (λ a. found n a.piece) (loads_of V n)

-- bytes for each piece, of its size
pub record Sized (V : View) (bytes : List (List ℕ)) : Type 0 where
  pub count : length bytes ≡ length V.pieces
  pub sized : (p : ℕ) → p < length V.pieces → length (bytes_at bytes p) ≡ bytes_of (piece_at V p).shape

abbrev pub first_of : Program → List (List ℕ)
first_of program = map (first_bytes program.memories) program.pieces

-- node n stores to the piece
pub record Stores (V : View) (n p : ℕ) : Type 0 where
  pub access : Access
  pub has : Has V n access
  pub store : is_store access.kind ≡ true
  pub piece : access.piece ≡ p

-- node n reads the piece for the host
pub record Reads (V : View) (n p : ℕ) : Type 0 where
  pub host : is_host (kind_at V n) ≡ true
  pub access : Access
  pub only : accesses_of V n ≡ access ∷ []
  pub piece : access.piece ≡ p

pub record Commands (program : Program) : Type 0 where
  pub formed : Formed (view_of program)
  pub single : Single (view_of program)
  pub command : (n : ℕ) → n < length (view_of program).nodes → is_command (kind_at (view_of program) n) ≡ true → (op : Op ℕ) × (op_at program n ≡ Some op)
  pub stores : (n : ℕ) (op : Op ℕ) → op_at program n ≡ Some op → Stores (view_of program) n (destination_of op)
  pub made : (n : ℕ) (op : Op ℕ) (bytes : List (List ℕ)) → op_at program n ≡ Some op → Sized (view_of program) bytes → stored program n (loaded_of (view_of program) (λ m p. bytes_at bytes p) n) ≡ bytes_at (after_node program bytes n) (destination_of op)
  pub sized : (n : ℕ) (bytes : List (List ℕ)) → Sized (view_of program) bytes → Sized (view_of program) (after_node program bytes n)
  pub first : Sized (view_of program) (first_of program)
  pub blank : (p : ℕ) → p < length (view_of program).pieces → imported_at (view_of program) p ≡ false → bytes_at (first_of program) p ≡ replicate (bytes_of (piece_at (view_of program) p).shape) 0
  pub imported : (main : Bytes) → HoldsImports program main → (p : ℕ) → imported_at (view_of program) p ≡ true → bytes_in (view_of program) main p ≡ bytes_at (first_of program) p
  pub read : (k : ℕ) → k < length program.readbacks → (p : ℕ) × (slice_get program.readbacks k ≡ Some p) × Reads (view_of program) (read_node program k) p
