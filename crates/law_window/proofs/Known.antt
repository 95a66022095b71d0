-- Of renamed passes, and of join passes, nothing is unknown.
use Rattle.std.proofs.Common.{◌≡◌, ℕ, List, [], ◌∷◌, get_or, nat_le, true, false, Some, None, sym, ap, subst, ◌∙◌}
use Rattle.std.specs.List.{All}
use Rattle.std.specs.Option.{option_map_or}
use Rattle.std.proofs.lemmas.List.Elements.{All-map}
use Rattle.base.specs.Operands.{operands_of, mapped}
use Rattle.frame.specs.Units.{Numbering, stretch_of}
use Rattle.frame.specs.Unknowns.{has_layer, has_queue, is_known, is_known_unit, picks_one}
use Rattle.frame.specs.declared.frame.Frame.{Frame}
use Rattle.frame.specs.declared.frame.Pass.{Pass}
use Rattle.frame.specs.declared.numbered.Stretch.{Stretch}
use Rattle.base.proofs.Operands.{operands_mapped}
use Rattle.law_window.proofs.KnownPass.{IsKnownPass}
use Rattle.law_window.proofs.PassNumbers.{AreSingle, IsSingle}
use Rattle.law_window.proofs.Renamed.{known_moved, known_unit_moved}
use Rattle.law_window.proofs.Stretches.{moved_stretch}
use Rattle.law_window.specs.NamedJoins.{NamedCarry, named_copy, named_join, named_renewal, whole}
use Rattle.law_window.specs.Passes.{renamed_pass, renamed_spot, renamed_write}
use Rattle.law_window.proofs.Each.{all_of}

-- a renamed pass
pub renamed_known : (small large : Numbering) (rename : List ℕ → List ℕ) (n : ℕ) → ((name : List ℕ) (s : Stretch) → stretch_of small name ≡ Some s → stretch_of large (rename name) ≡ Some (moved_stretch n s)) → (frame window : Frame) (name : List ℕ) (pass : Pass) → has_queue window pass.queue ≡ has_queue frame pass.queue → IsKnownPass frame small pass → IsKnownPass window large (renamed_pass rename name pass)
renamed_known small large rename n moves frame window name pass queue K = record {
  queue = queue ∙ K.queue;
  reads = All-map (λ spot. is_known large spot ≡ true) (renamed_spot rename) pass.reads (λ k d lt. known_moved small large rename n moves (get_or pass.reads k d) (K.reads k d lt));
  writes = All-map (λ w. is_known large w.what ≡ true) (renamed_write rename) pass.writes (λ k d lt. known_moved small large rename n moves (get_or pass.writes k d).what (K.writes k d lt));
  ops = All-map (λ op. All (λ spot. is_known_unit large spot ≡ true) (operands_of op)) (mapped (renamed_spot rename)) pass.ops (λ k d lt. subst (All (λ spot. is_known_unit large spot ≡ true)) (sym (operands_mapped (renamed_spot rename) (get_or pass.ops k d))) (All-map (λ spot. is_known_unit large spot ≡ true) (renamed_spot rename) (operands_of (get_or pass.ops k d)) (λ j e less. known_unit_moved small large rename n moves (get_or (operands_of (get_or pass.ops k d)) j e) (K.ops k d lt j e less))));
}

-- a join pass
module _ (n : Numbering) where
  pub whole_known : (name : List ℕ) → IsSingle n name → is_known n (whole name) ≡ true
  whole_known name S = ap (λ o. option_map_or (has_layer None) o false) S.stands

  whole_unit : (name : List ℕ) → IsSingle n name → is_known_unit n (whole name) ≡ true
  whole_unit name S = ap (λ o. option_map_or (picks_one None) o false) S.stands ∙ ap (λ m. nat_le m 1) S.single

  pub join_known : (window : Frame) (i : ℕ) (queue : List ℕ) (all : List NamedCarry) → has_queue window queue ≡ true → AreSingle n all → IsKnownPass window n (named_join i queue all)
  join_known window i queue all there single =
      let each = all_of (λ c. IsSingle n c.from × IsSingle n c.to) all single in
      record {
        queue = there;
        reads = All-map (λ spot. is_known n spot ≡ true) (λ c. whole c.from) all (λ k d lt. whole_known (get_or all k d).from (each k d lt).0);
        writes = All-map (λ w. is_known n w.what ≡ true) named_renewal all (λ k d lt. whole_known (get_or all k d).to (each k d lt).1);
        ops = All-map (λ op. All (λ spot. is_known_unit n spot ≡ true) (operands_of op)) named_copy all (λ k d lt. all_of (λ spot. is_known_unit n spot ≡ true) (whole (get_or all k d).from ∷ whole (get_or all k d).to ∷ []) (whole_unit (get_or all k d).from (each k d lt).0, (whole_unit (get_or all k d).to (each k d lt).1, tt)));
      }
