-- The commands and groups of a frame whose passes are on other queues.
use Rattle.std.proofs.Common.{◌≡◌, ℕ, zero, suc, ◌+◌, ◌≤◌, ◌==◌, ◌&&◌, Bool, true, false, List, [], ◌∷◌, ◌++◌, length, map, replicate, get_or, slice_get, Option, Some, None, if◌then◌else◌, refl, sym, ap, ap₂, subst, ◌∙◌, arith, eq-eqb}
use Rattle.std.specs.List.{All, flat_map, range_with_len}
use Rattle.std.specs.Option.{option_map_or}
use Rattle.std.proofs.lemmas.Bool.{ne_eqb}
use Rattle.std.proofs.lemmas.List.{length-append, length-map, length-replicate, map-append}
use Rattle.std.proofs.lemmas.List.Elements.{All-head, All-tail, All-weaker}
use Rattle.compile_queues.specs.Internal.Spans.{joined, moved}
use Rattle.compile_queues.specs.Internal.Work.{export_owner, kept_owners, owners, queue_by, with_queues}
use Rattle.compile_queues.specs.Queues.{on_queues, requeued}
use Rattle.compile_queues.proofs.Requeued.{last_versions}
use Rattle.base.specs.declared.op.Op.{Op}
use Rattle.base.specs.declared.shape.Shape.{Shape}
use Rattle.base.specs.declared.touch.Touch.{Touch}
use Rattle.frame.specs.Valid.{shapes_in}
use Rattle.frame.specs.Numbered.{NumberedFrame}
use Rattle.frame.specs.declared.numbered.NumberedPass.{NumberedPass}
use Rattle.base.specs.Shapes.{shape_at}
use Rattle.base.specs.Touches.{touches_of}
use Rattle.compile_groups.proofs.InOrder.{groups_flat, of_unit, runs_flat, units_from}
use Rattle.compile_groups.proofs.Lists.{each_of_flat}
use Rattle.compile_groups.specs.Commands.{all_shapes, commands, copy_out, export_commands, export_queue, kept_commands, on_queue, pass_commands}
use Rattle.compile_groups.specs.Groups.{all_uses, before_runs, frame_joins, grouping, runs, sharings_in, unit_groups, unit_uses}
use Rattle.compile_groups.specs.Laws.{flat}
use Rattle.compile_groups.specs.Uses.{command_uses, is_first_named, use_of, uses_from, uses_of}
use Rattle.compile_groups.specs.declared.command.Command.{Command}
use Rattle.compile_groups.specs.declared.unit_use.Use.{Use}
use Rattle.frame_cull.specs.Versions.{latest_maker, no_pass, pass_at}

no_length : {X : Type 0} (x : X) (xs : List X) → 0 ≡ length (x ∷ xs) → ⊥
no_length x xs e = omega (arith, e)

length_no : {X : Type 0} (x : X) (xs : List X) → length (x ∷ xs) ≡ 0 → ⊥
length_no x xs e = omega (arith, e)

-- COMMANDS

with_append : (Q R : List ℕ) (X Y : List Command) → length Q ≡ length X → with_queues (Q ++ R) (X ++ Y) ≡ with_queues Q X ++ with_queues R Y
with_append [] R [] Y e = refl
with_append [] R (x ∷ X) Y e = absurd (no_length x X e)
with_append (q ∷ Q) R [] Y e = absurd (length_no q Q e)
with_append (q ∷ Q) R (x ∷ X) Y e = ap (λ cs. record x { queue = q } ∷ cs) (with_append Q R X Y (omega (arith, e)))

own_length : (b : Bool) (p : ℕ) (pass : NumberedPass) → length (if b then replicate (length pass.ops) (Some p) else []) ≡ length (if b then pass_commands pass else [])
own_length true p pass = length-replicate (length pass.ops) (Some p) ∙ sym (length-map pass.ops (on_queue pass.queue))
own_length false p pass = refl

kept_length : (p : ℕ) (passes : List NumberedPass) (kept : List Bool) → length (kept_owners p passes kept) ≡ length (kept_commands passes kept)
kept_length p [] kept = refl
kept_length p (pass ∷ passes) [] = refl
kept_length p (pass ∷ passes) (keep ∷ kept) =
    length-append (if keep then replicate (length pass.ops) (Some p) else []) (kept_owners (suc p) passes kept)
    ∙ ap₂ (λ a b. a + b) (own_length keep p pass) (kept_length (suc p) passes kept)
    ∙ sym (length-append (if keep then pass_commands pass else []) (kept_commands passes kept))

export_length : (frame : NumberedFrame) (k : ℕ) (units : List ℕ) → length (map (export_owner frame) units) ≡ length (export_commands frame k units)
export_length frame k [] = refl
export_length frame k (unit ∷ units) = ap suc (export_length frame (suc k) units)

pub owners_length : (frame : NumberedFrame) (kept : List Bool) → length (owners frame kept) ≡ length (commands frame kept)
owners_length frame kept =
    length-append (kept_owners 0 frame.passes kept) (map (export_owner frame) frame.exports)
    ∙ ap₂ (λ a b. a + b) (kept_length 0 frame.passes kept) (export_length frame 0 frame.exports)
    ∙ sym (length-append (kept_commands frame.passes kept) (export_commands frame 0 frame.exports))

module _ (qs : List ℕ) where
  ops_moved : (p q r : ℕ) → r ≡ get_or qs p 0 → (ops : List (Op ℕ)) → map (on_queue r) ops ≡ with_queues (map (queue_by qs) (replicate (length ops) (Some p))) (map (on_queue q) ops)
  ops_moved p q r e [] = refl
  ops_moved p q r e (op ∷ ops) = ap₂ (λ k cs. record (on_queue q op) { queue = k } ∷ cs) e (ops_moved p q r e ops)

  own_moved : (b : Bool) (p r : ℕ) (pass : NumberedPass) → r ≡ get_or qs p 0 → (if b then pass_commands (record pass { queue = r }) else []) ≡ with_queues (map (queue_by qs) (if b then replicate (length pass.ops) (Some p) else [])) (if b then pass_commands pass else [])
  own_moved true p r pass e = ops_moved p pass.queue r e pass.ops
  own_moved false p r pass e = refl

  kept_moved : (rs : List ℕ) (p : ℕ) (passes : List NumberedPass) (kept : List Bool) → length rs ≡ length passes → ((k : ℕ) → get_or rs k 0 ≡ get_or qs (p + k) 0) → kept_commands (requeued rs passes) kept ≡ with_queues (map (queue_by qs) (kept_owners p passes kept)) (kept_commands passes kept)
  kept_moved [] p [] kept e same = refl
  kept_moved [] p (pass ∷ passes) kept e same = absurd (no_length pass passes e)
  kept_moved (r ∷ rs) p [] kept e same = absurd (length_no r rs e)
  kept_moved (r ∷ rs) p (pass ∷ passes) [] e same = refl
  kept_moved (r ∷ rs) p (pass ∷ passes) (keep ∷ kept) e same =
      let own = if keep then replicate (length pass.ops) (Some p) else [] in
      let rest = kept_owners (suc p) passes kept in
      let here : r ≡ get_or qs p 0 = same 0 ∙ (let at : p + 0 ≡ p = omega arith in ap (λ k. get_or qs k 0) at) in
      let later : (k : ℕ) → get_or rs k 0 ≡ get_or qs (suc p + k) 0 = λ k. same (suc k) ∙ (let at : p + suc k ≡ suc p + k = omega arith in ap (λ j. get_or qs j 0) at) in
      ap₂ (λ a b. a ++ b) (own_moved keep p r pass here) (kept_moved rs (suc p) passes kept (omega (arith, e)) later)
      ∙ sym (ap (λ Q. with_queues Q (kept_commands (pass ∷ passes) (keep ∷ kept))) (map-append (queue_by qs) own rest)
      ∙ with_append (map (queue_by qs) own) (map (queue_by qs) rest) (if keep then pass_commands pass else []) (kept_commands passes kept) (length-map own (queue_by qs) ∙ own_length keep p pass))

queue_moved : (qs : List ℕ) (passes : List NumberedPass) (p : ℕ) → length qs ≡ length passes → (get_or (requeued qs passes) p no_pass).queue ≡ get_or qs p 0
queue_moved [] [] p e = refl
queue_moved [] (pass ∷ passes) p e = absurd (no_length pass passes e)
queue_moved (q ∷ qs) [] p e = absurd (length_no q qs e)
queue_moved (q ∷ qs) (pass ∷ passes) zero e = refl
queue_moved (q ∷ qs) (pass ∷ passes) (suc p) e = queue_moved qs passes p (omega (arith, e))

module _ (frame : NumberedFrame) (qs : List ℕ) (count : length qs ≡ length frame.passes) where
  abbrev other : NumberedFrame
  other = on_queues qs frame

  by_owner : (owner : Option ℕ) → option_map_or (λ p. (pass_at other p).queue) owner 0 ≡ queue_by qs owner
  by_owner None = refl
  by_owner (Some p) = queue_moved qs frame.passes p count

  export_moved : (unit : ℕ) → export_queue other unit ≡ queue_by qs (export_owner frame unit)
  export_moved unit = ap (λ row. option_map_or (λ p. (pass_at other p).queue) (latest_maker row) 0) (last_versions qs frame unit) ∙ by_owner (export_owner frame unit)

  exports_moved : (k : ℕ) (units : List ℕ) → export_commands other k units ≡ with_queues (map (queue_by qs) (map (export_owner frame) units)) (export_commands frame k units)
  exports_moved k [] = refl
  exports_moved k (unit ∷ units) = ap₂ (λ q cs. record { queue = q; op = copy_out (shape_at (shapes_in frame) unit) unit (length frame.units + k); export = Some k } ∷ cs) (export_moved unit) (exports_moved (suc k) units)

  pub commands_moved : (kept : List Bool) → commands other kept ≡ with_queues (map (queue_by qs) (owners frame kept)) (commands frame kept)
  commands_moved kept =
      let first = kept_owners 0 frame.passes kept in
      let rest = map (export_owner frame) frame.exports in
      ap₂ (λ a b. a ++ b) (kept_moved qs qs 0 frame.passes kept count (λ k. let at : k ≡ 0 + k = omega arith in ap (λ j. get_or qs j 0) at)) (exports_moved 0 frame.exports)
      ∙ sym (ap (λ Q. with_queues Q (commands frame kept)) (map-append (queue_by qs) first rest)
      ∙ with_append (map (queue_by qs) first) (map (queue_by qs) rest) (kept_commands frame.passes kept) (export_commands frame 0 frame.exports) (length-map first (queue_by qs) ∙ kept_length 0 frame.passes kept))

-- of commands on given queues

pub with_length : (Q : List ℕ) (X : List Command) → length Q ≡ length X → length (with_queues Q X) ≡ length Q
with_length [] [] e = refl
with_length [] (x ∷ X) e = absurd (no_length x X e)
with_length (q ∷ Q) [] e = absurd (length_no q Q e)
with_length (q ∷ Q) (x ∷ X) e = ap suc (with_length Q X (omega (arith, e)))

pub with_queue : (Q : List ℕ) (X : List Command) (c : ℕ) → length Q ≡ length X → option_map_or (λ (command : Command). command.queue) (slice_get (with_queues Q X) c) 0 ≡ get_or Q c 0
with_queue [] [] c e = refl
with_queue [] (x ∷ X) c e = absurd (no_length x X e)
with_queue (q ∷ Q) [] c e = absurd (length_no q Q e)
with_queue (q ∷ Q) (x ∷ X) zero e = refl
with_queue (q ∷ Q) (x ∷ X) (suc c) e = with_queue Q X c (omega (arith, e))

pub with_costs : (cost : Command → ℕ) → ((command : Command) (q : ℕ) → cost (record command { queue = q }) ≡ cost command) → (Q : List ℕ) (X : List Command) → length Q ≡ length X → map cost (with_queues Q X) ≡ map cost X
with_costs cost blind [] [] e = refl
with_costs cost blind [] (x ∷ X) e = absurd (no_length x X e)
with_costs cost blind (q ∷ Q) [] e = absurd (length_no q Q e)
with_costs cost blind (q ∷ Q) (x ∷ X) e = ap₂ (λ a b. a ∷ b) (blind x q) (with_costs cost blind Q X (omega (arith, e)))

-- USES

module _ (shapes : List Shape) (units : ℕ) (queues : List ℕ) where
  one_moved : (b : Bool) (c q p k : ℕ) (touch : Touch) → q ≡ get_or queues c 0 → (if b then use_of shapes c q k touch ∷ [] else []) ≡ map (moved queues) (if b then use_of shapes c p k touch ∷ [] else [])
  one_moved true c q p k touch e = ap (λ z. record (use_of shapes c p k touch) { queue = z } ∷ []) e
  one_moved false c q p k touch e = refl

  from_moved : (c q p : ℕ) → q ≡ get_or queues c 0 → (k : ℕ) (named : List ℕ) (touches : List Touch) → uses_from shapes units c q k named touches ≡ map (moved queues) (uses_from shapes units c p k named touches)
  from_moved c q p e k named [] = refl
  from_moved c q p e k named (touch ∷ touches) =
      ap₂ (λ a b. a ++ b) (one_moved (is_first_named units named touch.what) c q p k touch e) (from_moved c q p e (suc k) (named ++ touch.what ∷ []) touches)
      ∙ sym (map-append (moved queues) (if is_first_named units named touch.what then use_of shapes c p k touch ∷ [] else []) (uses_from shapes units c p (suc k) (named ++ touch.what ∷ []) touches))

  uses_moved : (c : ℕ) (Q : List ℕ) (X : List Command) → length Q ≡ length X → ((k : ℕ) → get_or Q k 0 ≡ get_or queues (c + k) 0) → uses_of shapes units c (with_queues Q X) ≡ map (moved queues) (uses_of shapes units c X)
  uses_moved c [] [] e same = refl
  uses_moved c [] (x ∷ X) e same = absurd (no_length x X e)
  uses_moved c (q ∷ Q) [] e same = absurd (length_no q Q e)
  uses_moved c (q ∷ Q) (x ∷ X) e same =
      let here : q ≡ get_or queues c 0 = same 0 ∙ (let at : c + 0 ≡ c = omega arith in ap (λ k. get_or queues k 0) at) in
      let later : (k : ℕ) → get_or Q k 0 ≡ get_or queues (suc c + k) 0 = λ k. same (suc k) ∙ (let at : c + suc k ≡ suc c + k = omega arith in ap (λ j. get_or queues j 0) at) in
      ap₂ (λ a b. a ++ b) (from_moved c q x.queue here 0 [] (touches_of shapes x.op)) (uses_moved (suc c) Q X (omega (arith, e)) later)
      ∙ sym (map-append (moved queues) (command_uses shapes units c x) (uses_of shapes units (suc c) X))

-- GROUPS

unit_moved : (queues : List ℕ) (uses : List Use) (unit : ℕ) → unit_uses (map (moved queues) uses) unit ≡ map (moved queues) (unit_uses uses unit)
unit_moved queues [] unit = refl
unit_moved queues (u ∷ uses) unit = go (u.unit == unit) (unit_moved queues uses unit)
  where
    go : (b : Bool) → unit_uses (map (moved queues) uses) unit ≡ map (moved queues) (unit_uses uses unit) → (if b then moved queues u ∷ unit_uses (map (moved queues) uses) unit else unit_uses (map (moved queues) uses) unit) ≡ map (moved queues) (if b then u ∷ unit_uses uses unit else unit_uses uses unit)
    go true e = ap (λ us. moved queues u ∷ us) e
    go false e = e

module _ (J : Use → Use → Bool) (f : Use → Use) where
  before_mapped : (u : Use) (R : List (List Use)) → before_runs J (f u) (map (map f) R) ≡ map (map f) (before_runs (λ v w. J (f v) (f w)) u R)
  before_mapped u [] = refl
  before_mapped u ([] ∷ R) = refl
  before_mapped u ((v ∷ run) ∷ R) = go (J (f u) (f v))
    where
      go : (b : Bool) → (if b then (f u ∷ f v ∷ map f run) ∷ map (map f) R else (f u ∷ []) ∷ (f v ∷ map f run) ∷ map (map f) R) ≡ map (map f) (if b then (u ∷ v ∷ run) ∷ R else (u ∷ []) ∷ (v ∷ run) ∷ R)
      go true = refl
      go false = refl

  runs_mapped : (us : List Use) → runs J (map f us) ≡ map (map f) (runs (λ v w. J (f v) (f w)) us)
  runs_mapped [] = refl
  runs_mapped (u ∷ us) = ap (before_runs J (f u)) (runs_mapped us) ∙ before_mapped u (runs (λ v w. J (f v) (f w)) us)

groups_mapped : (J : Use → Use → Bool) (queues : List ℕ) (uses : List Use) (ks : List ℕ) → flat_map (unit_groups J (map (moved queues) uses)) ks ≡ map (map (moved queues)) (flat_map (unit_groups (λ u v. J (moved queues u) (moved queues v)) uses) ks)
groups_mapped J queues uses [] = refl
groups_mapped J queues uses (k ∷ ks) =
    ap₂ (λ a b. a ++ b) (ap (runs J) (unit_moved queues uses k) ∙ runs_mapped J (moved queues) (unit_uses uses k)) (groups_mapped J queues uses ks)
    ∙ sym (map-append (map (moved queues)) (unit_groups (λ u v. J (moved queues u) (moved queues v)) uses k) (flat_map (unit_groups (λ u v. J (moved queues u) (moved queues v)) uses) ks))

-- ALL UNITS AT ONCE

module _ (J : Use → Use → Bool) where
  abbrev of_one : Use → Use → Bool
  of_one u v = u.unit == v.unit && J u v

  before_same : (x : ℕ) (u : Use) → u.unit ≡ x → (R : List (List Use)) → All (λ A. All (λ v. v.unit ≡ x) A) R → before_runs J u R ≡ before_runs of_one u R
  before_same x u is [] all = refl
  before_same x u is ([] ∷ R) all = refl
  before_same x u is ((v ∷ run) ∷ R) all =
      let of_v : v.unit ≡ x = All-head (λ (w : Use). w.unit ≡ x) v run (All-head (λ A. All (λ (w : Use). w.unit ≡ x) A) (v ∷ run) R all) in
      ap (λ b. if b && J u v then (u ∷ v ∷ run) ∷ R else (u ∷ []) ∷ (v ∷ run) ∷ R) (sym (eq-eqb u.unit v.unit (is ∙ sym of_v)))

  same_runs : (x : ℕ) (us : List Use) → All (λ u. u.unit ≡ x) us → runs J us ≡ runs of_one us
  same_runs x [] all = refl
  same_runs x (u ∷ us) all =
      let rest = All-tail (λ (v : Use). v.unit ≡ x) u us all in
      ap (before_runs J u) (same_runs x us rest) ∙ before_same x u (All-head (λ (v : Use). v.unit ≡ x) u us all) (runs of_one us) (each_of_flat (λ (v : Use). v.unit ≡ x) (runs of_one us) (subst (All (λ (v : Use). v.unit ≡ x)) (sym (runs_flat of_one us)) rest))

before_apart : (J : Use → Use → Bool) (u : Use) (R S : List (List Use)) → All (λ A. All (λ v. J u v ≡ false) A) S → before_runs J u (R ++ S) ≡ before_runs J u R ++ S
before_apart J u [] [] all = refl
before_apart J u [] ([] ∷ S) all = refl
before_apart J u [] ((v ∷ run) ∷ S) all = ap (λ b. if b then (u ∷ v ∷ run) ∷ S else (u ∷ []) ∷ (v ∷ run) ∷ S) (All-head (λ w. J u w ≡ false) v run (All-head (λ A. All (λ w. J u w ≡ false) A) (v ∷ run) S all))
before_apart J u ([] ∷ R) S all = refl
before_apart J u ((v ∷ run) ∷ R) S all = go (J u v)
  where
    go : (b : Bool) → (if b then (u ∷ v ∷ run) ∷ (R ++ S) else (u ∷ []) ∷ (v ∷ run) ∷ (R ++ S)) ≡ (if b then (u ∷ v ∷ run) ∷ R else (u ∷ []) ∷ (v ∷ run) ∷ R) ++ S
    go true = refl
    go false = refl

runs_apart : (J : Use → Use → Bool) (xs ys : List Use) → All (λ x. All (λ y. J x y ≡ false) ys) xs → runs J (xs ++ ys) ≡ runs J xs ++ runs J ys
runs_apart J [] ys all = refl
runs_apart J (x ∷ xs) ys all =
    ap (before_runs J x) (runs_apart J xs ys (All-tail (λ u. All (λ y. J u y ≡ false) ys) x xs all))
    ∙ before_apart J x (runs J xs) (runs J ys) (each_of_flat (λ y. J x y ≡ false) (runs J ys) (subst (All (λ y. J x y ≡ false)) (sym (runs_flat J ys)) (All-head (λ u. All (λ y. J u y ≡ false) ys) x xs all)))

at_once : (J : Use → Use → Bool) (uses : List Use) (a n : ℕ) → flat_map (unit_groups J uses) (range_with_len a n) ≡ runs (of_one J) (flat_map (unit_uses uses) (range_with_len a n))
at_once J uses a zero = refl
at_once J uses a (suc n) =
    ap₂ (λ x y. x ++ y) (same_runs J a (unit_uses uses a) (of_unit uses a)) (at_once J uses (a + 1) n)
    ∙ sym (runs_apart (of_one J) (unit_uses uses a) (flat_map (unit_uses uses) (range_with_len (a + 1) n)) (All-weaker (λ u. u.unit ≡ a) (λ u. All (λ v. of_one J u v ≡ false) (flat_map (unit_uses uses) (range_with_len (a + 1) n))) (λ u e. All-weaker (λ v. a + 1 ≤ v.unit) (λ v. of_one J u v ≡ false) (λ v le. ap (λ b. b && J u v) (ne_eqb u.unit v.unit (λ same. omega (arith, same, e, le)))) (flat_map (unit_uses uses) (range_with_len (a + 1) n)) (units_from uses (a + 1) n)) (unit_uses uses a) (of_unit uses a)))

-- OF A FRAME

module _ (frame : NumberedFrame) (qs : List ℕ) (count : length qs ≡ length frame.passes) (kept : List Bool) where
  abbrev queues : List ℕ
  queues = map (queue_by qs) (owners frame kept)

  pub queues_length : length queues ≡ length (commands frame kept)
  queues_length = length-map (owners frame kept) (queue_by qs) ∙ owners_length frame kept

  all_moved : all_uses (on_queues qs frame) (commands (on_queues qs frame) kept) ≡ map (moved queues) (all_uses frame (commands frame kept))
  all_moved =
      ap (uses_of (all_shapes frame) (length frame.units) 0) (commands_moved frame qs count kept)
      ∙ uses_moved (all_shapes frame) (length frame.units) queues 0 queues (commands frame kept) queues_length (λ k. let at : k ≡ 0 + k = omega arith in ap (λ j. get_or queues j 0) at)

  pub groups_moved : (grouping (on_queues qs frame) kept).groups ≡ map (map (moved queues)) (runs (joined frame.queues (sharings_in frame) queues) (flat (grouping frame kept).groups))
  groups_moved =
      let J = frame_joins frame in
      let U = all_uses frame (commands frame kept) in
      let units = range_with_len 0 (length frame.units) in
      ap (λ uses. flat_map (unit_groups J uses) units) all_moved
      ∙ groups_mapped J queues U units
      ∙ ap (map (map (moved queues))) (at_once (λ u v. J (moved queues u) (moved queues v)) U 0 (length frame.units) ∙ ap (runs (joined frame.queues (sharings_in frame) queues)) (sym (groups_flat J U units)))
