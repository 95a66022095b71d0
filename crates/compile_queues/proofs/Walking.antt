-- Lists as they grow in loops.
use Rattle.std.proofs.Common.{◌≡◌, ℕ, zero, suc, ◌+◌, ◌-◌, ◌/◌, ◌<◌, ◌≤◌, ◌==◌, Bool, true, false, List, [], ◌∷◌, ◌++◌, length, map, take, drop, get_or, slice_get, replicate, Option, Some, None, if◌then◌else◌, refl, sym, ap, ap₂, subst, ◌∙◌, arith, unwrap_or, ⊎_elim, add-one, zero-add}
use Rattle.std.specs.Prelude.{IfSome}
use Rattle.std.specs.Option.{option_map_or}
use Rattle.std.specs.List.{All, filter, list_all, range_with_len}
use Rattle.std.proofs.lemmas.List.{append-nil, append_assoc, drop_all, drop_more, get_or_default, length-map, length-take-le, map-append, map_more, replicate_more, take_all, take_more}
use Rattle.std.proofs.lemmas.Bool.{cases_lt}
use Rattle.std.proofs.lemmas.Option.{slice_get-get_or}
use Rattle.compile_queues.specs.Internal.Work.{export_owner, kept_owner, kept_owners, places}
use Rattle.compile_queues.specs.Cost.{command_cost, costs}
use Rattle.compile_queues.specs.Internal.Spans.{next_span, span_before, span_of, spans_of, use_at}
use Rattle.compile_queues.specs.Queues.{serves}
use Rattle.compile_queues.specs.Renamed.{passes_on, queue_name}
use Rattle.compile_queues.specs.declared.spans.Span.{Span}
use Rattle.base.proofs.Lists.{range_more}
use Rattle.base.specs.Operands.{destination_of, operands_of}
use Rattle.base.specs.Runs.{runs}
use Rattle.base.specs.Shapes.{bytes_of, shape_at}
use Rattle.base.specs.declared.op.Op.{Op}
use Rattle.base.specs.declared.shape.Family.{Family}
use Rattle.base.specs.declared.shape.Shape.{Shape}
use Rattle.frame.specs.Numbered.{NumberedFrame}
use Rattle.frame.specs.declared.frame.Frame.{Frame}
use Rattle.frame.specs.declared.frame.Pass.{Pass}
use Rattle.frame.specs.declared.frame.QueueDecl.{QueueDecl}
use Rattle.frame.specs.declared.numbered.NumberedPass.{NumberedPass}
use Rattle.compile_groups.proofs.Lists.{filter_range_more}
use Rattle.compile_groups.specs.Laws.{IsKnown, IsSmall, flat}
use Rattle.compile_groups.specs.Uses.{no_use}
use Rattle.compile_groups.specs.declared.command.Command.{Command}
use Rattle.compile_groups.specs.declared.grouping.Grouping.{Grouping}
use Rattle.compile_groups.specs.declared.unit_use.Use.{Use}
use Rattle.frame_cull.proofs.Grow.{row_is}
use Rattle.frame_cull.specs.Versions.{Numbers, latest_maker, no_pass, numbers_of, row_of}

-- A PART MORE

part_more : {X : Type 0} (list own rest more total : List X) → more ≡ list ++ own → list ++ (own ++ rest) ≡ total → more ++ rest ≡ total
part_more list own rest more total m e = ap (λ l. l ++ rest) m ∙ append_assoc list own rest ∙ e

pub times_more : {X : Type 0} (old list more : List X) (k : ℕ) (x : X) → list ≡ old ++ replicate k x → more ≡ list ++ x ∷ [] → more ≡ old ++ replicate (k + 1) x
times_more old list more k x e m = m ∙ ap (λ l. l ++ x ∷ []) e ∙ append_assoc old (replicate k x) (x ∷ []) ∙ ap (λ l. old ++ l) (replicate_more k x)

pub times_none : {X : Type 0} (old : List X) (x : X) → old ≡ old ++ replicate 0 x
times_none old x = sym (append-nil old)

pub flat_more : {X : Type 0} (groups : List (List X)) (g : ℕ) (list more total : List X) → g < length groups → list ++ flat (drop g groups) ≡ total → more ≡ list ++ get_or groups g [] → more ++ flat (drop (g + 1) groups) ≡ total
flat_more groups g list more total lt e m = part_more list (get_or groups g []) (flat (drop (g + 1) groups)) more total m (ap (λ l. list ++ flat l) (sym (drop_more groups g [] lt)) ∙ e)

pub flat_all : {X : Type 0} (groups : List (List X)) (g : ℕ) (list total : List X) → length groups ≤ g → list ++ flat (drop g groups) ≡ total → list ≡ total
flat_all groups g list total le e = sym (append-nil list) ∙ ap (λ l. list ++ flat l) (sym (drop_all g groups le)) ∙ e

pub range_map_more : {X : Type 0} (f : ℕ → X) (n : ℕ) (list more : List X) → list ≡ map f (range_with_len 0 n) → more ≡ list ++ f n ∷ [] → more ≡ map f (range_with_len 0 (n + 1))
range_map_more f n list more e m = m ∙ ap (λ l. l ++ f n ∷ []) e ∙ sym (ap (λ k. map f (range_with_len 0 k)) (add-one n) ∙ ap (map f) (range_more 0 n n (zero-add n)) ∙ map-append f (range_with_len 0 n) (n ∷ []))

-- OWNERS

module _ (passes : List NumberedPass) (kept : List Bool) (p : ℕ) where
  pub owner_more : (list more total : List (Option ℕ)) → length kept ≡ length passes → p < length passes → list ++ kept_owners p (drop p passes) (drop p kept) ≡ total → more ≡ list ++ kept_owner kept p (get_or passes p no_pass) → more ++ kept_owners (p + 1) (drop (p + 1) passes) (drop (p + 1) kept) ≡ total
  owner_more list more total size lt e m =
      part_more list (kept_owner kept p (get_or passes p no_pass)) (kept_owners (p + 1) (drop (p + 1) passes) (drop (p + 1) kept)) more total m
      (ap (λ q. list ++ (kept_owner kept p (get_or passes p no_pass) ++ kept_owners q (drop (p + 1) passes) (drop (p + 1) kept))) (add-one p)
      ∙ ap₂ (λ ps ks. list ++ kept_owners p ps ks) (sym (drop_more passes p no_pass lt)) (sym (drop_more kept p false (omega (arith, size, lt))))
      ∙ e)

  pub owners_all : (list total : List (Option ℕ)) → length passes ≤ p → list ++ kept_owners p (drop p passes) (drop p kept) ≡ total → list ≡ total
  owners_all list total le e = sym (append-nil list) ∙ ap (λ ps. list ++ kept_owners p ps (drop p kept)) (sym (drop_all p passes le)) ∙ e

  pub owner_kept : (list more : List (Option ℕ)) (keep : Bool) (ops : List (Op ℕ)) → p < length passes → keep ≡ get_or kept p false → keep ≡ true → IfSome (slice_get passes p) (λ pass. ops ≡ pass.ops) → more ≡ list ++ replicate (length ops) (Some p) → more ≡ list ++ kept_owner kept p (get_or passes p no_pass)
  owner_kept list more keep ops lt is holds os m =
      let there : slice_get passes p ≡ Some (get_or passes p no_pass) = slice_get-get_or passes p no_pass lt in
      let same : ops ≡ (get_or passes p no_pass).ops = subst (λ o. IfSome o (λ pass. ops ≡ pass.ops)) there os in
      m ∙ ap (λ l. list ++ replicate (length l) (Some p)) same ∙ sym (ap (λ b. list ++ (if b then replicate (length (get_or passes p no_pass).ops) (Some p) else [])) (sym is ∙ holds))

  pub owner_left : (list : List (Option ℕ)) (keep : Bool) → keep ≡ get_or kept p false → keep ≡ false → list ≡ list ++ kept_owner kept p (get_or passes p no_pass)
  owner_left list keep is fails = sym (ap (λ b. list ++ (if b then replicate (length (get_or passes p no_pass).ops) (Some p) else [])) (sym is ∙ fails) ∙ append-nil list)

pub writer_is : (n : NumberedFrame) (v : Numbers) (unit : ℕ) (found : Option ℕ) → v ≡ numbers_of n → unit < length n.units → found ≡ latest_maker (row_of v.makers unit) → found ≡ export_owner n unit
writer_is n v unit found is lt e = e ∙ ap (λ (x : Numbers). latest_maker (row_of x.makers unit)) is ∙ ap latest_maker (row_is n (length n.passes) unit lt)

-- PASSES ON OTHER QUEUES

slice_get_past : (names : List (List ℕ)) (p : ℕ) → length names ≤ p → slice_get names p ≡ None
slice_get_past [] p le = refl
slice_get_past (n ∷ names) zero le = absurd (omega (arith, le))
slice_get_past (n ∷ names) (suc p) le = slice_get_past names p (omega (arith, le))

passes_push : (names : List (List ℕ)) (name : List ℕ) (passes : List Pass) (pass : Pass) → length names ≡ length passes → passes_on (names ++ name ∷ []) (passes ++ pass ∷ []) ≡ passes_on names passes ++ record pass { queue = name } ∷ []
passes_push [] name [] pass e = refl
passes_push [] name (p ∷ passes) pass e = absurd (no e)
  where
    no : 0 ≡ suc (length passes) → ⊥
    no h = omega arith
passes_push (n ∷ names) name [] pass e = absurd (no e)
  where
    no : suc (length names) ≡ 0 → ⊥
    no h = omega arith
passes_push (n ∷ names) name (p ∷ passes) pass e = ap (λ ps. record p { queue = n } ∷ ps) (passes_push names name passes pass (omega (arith, e)))

passes_end : (names : List (List ℕ)) (passes : List Pass) (pass : Pass) → length names ≤ length passes → passes_on names (passes ++ pass ∷ []) ≡ passes_on names passes ++ pass ∷ []
passes_end [] passes pass le = refl
passes_end (n ∷ names) [] pass le = absurd (omega (arith, le))
passes_end (n ∷ names) (p ∷ passes) pass le = ap (λ ps. record p { queue = n } ∷ ps) (passes_end names passes pass (omega (arith, le)))

pub passes_more : (names : List (List ℕ)) (p : ℕ) (passes list more : List Pass) (pass : Pass) (name : List ℕ) → p ≡ length passes → name ≡ unwrap_or (slice_get names p) pass.queue → list ≡ passes_on (take p names) passes → more ≡ list ++ record pass { queue = name } ∷ [] → more ≡ passes_on (take (p + 1) names) (passes ++ pass ∷ [])
passes_more names p passes list more pass name count is e m = ⊎_elim within past (cases_lt p (length names))
  where
    within : p < length names → more ≡ passes_on (take (p + 1) names) (passes ++ pass ∷ [])
    within lt =
        m ∙ ap (λ l. l ++ record pass { queue = name } ∷ []) e
        ∙ sym (ap (λ ns. passes_on ns (passes ++ pass ∷ [])) (take_more names p [] lt ∙ ap (λ n. take p names ++ n ∷ []) (sym (is ∙ ap (λ o. unwrap_or o pass.queue) (slice_get-get_or names p [] lt))))
        ∙ passes_push (take p names) name passes pass (length-take-le p names (omega (arith, lt)) ∙ count))

    past : length names ≤ p → more ≡ passes_on (take (p + 1) names) (passes ++ pass ∷ [])
    past ge =
        let own : name ≡ pass.queue = is ∙ ap (λ o. unwrap_or o pass.queue) (slice_get_past names p ge) in
        m ∙ ap₂ (λ l n. l ++ record pass { queue = n } ∷ []) (e ∙ ap (λ ns. passes_on ns passes) (take_all p names ge)) own
        ∙ sym (ap (λ ns. passes_on ns (passes ++ pass ∷ [])) (take_all (p + 1) names (omega (arith, ge))) ∙ passes_end names passes pass (omega (arith, ge, count)))

-- QUEUES

pub serves_is : (queues : List Family) (passes : List NumberedPass) (p q : ℕ) (family : Family) (ops : List (Op ℕ)) (result : Bool) → p < length passes → slice_get queues q ≡ Some family → IfSome (slice_get passes p) (λ pass. ops ≡ pass.ops) → result ≡ list_all (λ op. runs op family) ops → result ≡ serves queues (get_or passes p no_pass) q
serves_is queues passes p q family ops result lt at os e =
    let there : slice_get passes p ≡ Some (get_or passes p no_pass) = slice_get-get_or passes p no_pass lt in
    let same : ops ≡ (get_or passes p no_pass).ops = subst (λ o. IfSome o (λ pass. ops ≡ pass.ops)) there os in
    e ∙ ap (list_all (λ op. runs op family)) same ∙ sym (ap (λ o. option_map_or (λ f. list_all (λ op. runs op f) (get_or passes p no_pass).ops) o false) at)

pub queue_more : (passes : List NumberedPass) (p q : ℕ) (list more : List ℕ) → p < length passes → list ≡ map (λ pass. pass.queue) (take p passes) → IfSome (slice_get passes p) (λ pass. q ≡ pass.queue) → more ≡ list ++ q ∷ [] → more ≡ map (λ pass. pass.queue) (take (p + 1) passes)
queue_more passes p q list more lt e is m =
    let there : slice_get passes p ≡ Some (get_or passes p no_pass) = slice_get-get_or passes p no_pass lt in
    let same : q ≡ (get_or passes p no_pass).queue = subst (λ o. IfSome o (λ pass. q ≡ pass.queue)) there is in
    m ∙ ap₂ (λ l x. l ++ x ∷ []) e same ∙ sym (map_more (λ (pass : NumberedPass). pass.queue) passes p no_pass lt)

pub queue_all : (passes : List NumberedPass) (p : ℕ) (list : List ℕ) → length passes ≤ p → list ≡ map (λ pass. pass.queue) (take p passes) → list ≡ map (λ pass. pass.queue) passes
queue_all passes p list le e = e ∙ ap (map (λ (pass : NumberedPass). pass.queue)) (take_all p passes le)

pub name_is : (frame : Frame) (q : ℕ) (x : QueueDecl) → q < length frame.queues → x ≡ get_or frame.queues q x → x.name ≡ queue_name frame q
name_is frame q x lt e = sym (ap (λ o. option_map_or (λ (d : QueueDecl). d.name) o []) (slice_get-get_or frame.queues q x lt ∙ ap Some (sym e)))

pub names_more : (frame : Frame) (queues : List ℕ) (k : ℕ) (x : QueueDecl) (list more total : List (List ℕ)) → k < length queues → get_or queues k 0 < length frame.queues → x ≡ get_or frame.queues (get_or queues k 0) x → list ++ map (queue_name frame) (drop k queues) ≡ total → more ≡ list ++ x.name ∷ [] → more ++ map (queue_name frame) (drop (k + 1) queues) ≡ total
names_more frame queues k x list more total lt within is e m =
    part_more list (x.name ∷ []) (map (queue_name frame) (drop (k + 1) queues)) more total m
    (ap (λ n. list ++ n ∷ map (queue_name frame) (drop (k + 1) queues)) (name_is frame (get_or queues k 0) x within is)
    ∙ ap (λ qs. list ++ map (queue_name frame) qs) (sym (drop_more queues k 0 lt)) ∙ e)

-- SPANS

span_next : (J : Use → Use → Bool) (uses : List Use) (j : ℕ) → span_of J uses j ≡ next_span J uses j (span_before J uses j)
span_next J uses zero = refl
span_next J uses (suc j) = refl

pub next_is : (J : Use → Use → Bool) (uses : List Use) (j : ℕ) (span next : Span) → span ≡ span_before J uses j → next ≡ next_span J uses j span → next ≡ span_of J uses j
next_is J uses j span next e n = n ∙ ap (next_span J uses j) e ∙ sym (span_next J uses j)

pub span_after : (J : Use → Use → Bool) (uses : List Use) (j : ℕ) (next : Span) → next ≡ span_of J uses j → next ≡ span_before J uses (j + 1)
span_after J uses j next e = e ∙ sym (ap (span_before J uses) (add-one j))

pub first_span : (J : Use → Use → Bool) (uses : List Use) (j : ℕ) (span : Span) → j ≡ 0 → span ≡ next_span J uses j span
first_span J uses j span e = sym (ap (λ k. next_span J uses k span) e)

-- the span of a use that has one before it
pub later_span : (J : Use → Use → Bool) (uses : List Use) (j : ℕ) (span result : Span) (before here : Use) (b : Bool) → (j ≡ 0 → ⊥) → j < length uses → before ≡ get_or uses (j - 1) before → here ≡ get_or uses j here → b ≡ J before here → result ≡ (if b then span else record { from = span.to; to = j }) → result ≡ next_span J uses j span
later_span J uses zero span result before here b some lt u v joined e = absurd (some refl)
later_span J uses (suc j) span result before here b some lt u v joined e =
    let at : suc j - 1 ≡ j = omega arith in
    let first : before ≡ use_at uses j = u ∙ ap (λ k. get_or uses k before) at ∙ get_or_default uses j before no_use (omega (arith, lt)) in
    let second : here ≡ use_at uses (suc j) = v ∙ get_or_default uses (suc j) here no_use lt in
    e ∙ ap (λ t. if t then span else record { from = span.to; to = suc j }) (joined ∙ ap₂ J first second)

-- WORK

pub costs_more : (G : Grouping) (shapes : List Shape) (commands : List Command) (i cost : ℕ) (command : Command) (list more total : List ℕ) → shapes ≡ G.shapes → i < length commands → command ≡ get_or commands i command → cost ≡ 1 + bytes_of (shape_at shapes (destination_of command.op)) / 4096 → list ++ map (command_cost G) (drop i commands) ≡ total → more ≡ list ++ cost ∷ [] → more ++ map (command_cost G) (drop (i + 1) commands) ≡ total
costs_more G shapes commands i cost command list more total of lt is e so m =
    part_more list (cost ∷ []) (map (command_cost G) (drop (i + 1) commands)) more total m
    (ap (λ x. list ++ x ∷ map (command_cost G) (drop (i + 1) commands)) (e ∙ ap (λ s. 1 + bytes_of (shape_at s (destination_of command.op)) / 4096) of ∙ ap (command_cost G) is)
    ∙ ap (λ cs. list ++ map (command_cost G) cs) (sym (drop_more commands i command lt)) ∙ so)

pub costs_all : (G : Grouping) (commands : List Command) (i : ℕ) (list : List ℕ) → length commands ≤ i → commands ≡ G.commands → list ++ map (command_cost G) (drop i commands) ≡ map (command_cost G) commands → list ≡ costs G
costs_all G commands i list le of e = sym (append-nil list) ∙ ap (λ cs. list ++ map (command_cost G) cs) (sym (drop_all i commands le)) ∙ e ∙ ap (map (command_cost G)) of

pub costs_few : (G : Grouping) (list : List ℕ) → IsSmall G → list ≡ costs G → length list ≤ 288
costs_few G list S e = let size : length list ≡ length G.commands = ap length e ∙ length-map G.commands (command_cost G) in let few = S.few_commands in omega (arith, size, few)

pub command_known : (G : Grouping) (shapes : List Shape) (commands : List Command) (i : ℕ) (command : Command) → IsKnown G → shapes ≡ G.shapes → commands ≡ G.commands → i < length commands → command ≡ get_or commands i command → All (λ r. r < length shapes) (operands_of command.op)
command_known G shapes commands i command K of are lt is =
    subst (λ s. All (λ r. r < length s) (operands_of command.op)) (sym of) (subst (λ (c : Command). All (λ r. r < length G.shapes) (operands_of c.op)) (sym is) (subst (All (λ (c : Command). All (λ r. r < length G.shapes) (operands_of c.op))) (sym are) K.operands i command lt))

pub place_more : (uses : List Use) (d j : ℕ) (default : Use) (list more : List ℕ) → j < length uses → list ≡ filter (λ k. (use_at uses k).command == d) (range_with_len 0 j) → more ≡ (if (get_or uses j default).command == d then list ++ j ∷ [] else list) → more ≡ filter (λ k. (use_at uses k).command == d) (range_with_len 0 (j + 1))
place_more uses d j default list more lt e m = filter_range_more (λ k. (use_at uses k).command == d) j list more e (m ∙ ap (λ (u : Use). if u.command == d then list ++ j ∷ [] else list) (get_or_default uses j default no_use lt))

pub place_all : (uses : List Use) (d j : ℕ) (list : List ℕ) → j ≤ length uses → length uses ≤ j → list ≡ filter (λ k. (use_at uses k).command == d) (range_with_len 0 j) → list ≡ places uses d
place_all uses d j list le ge e = e ∙ (let end : j ≡ length uses = omega (arith, le, ge) in ap (λ n. filter (λ k. (use_at uses k).command == d) (range_with_len 0 n)) end)

pub places_more : (uses : List Use) (d : ℕ) (one : List ℕ) (list more : List (List ℕ)) → list ≡ map (places uses) (range_with_len 0 d) → one ≡ places uses d → more ≡ list ++ one ∷ [] → more ≡ map (places uses) (range_with_len 0 (d + 1))
places_more uses d one list more e o m = range_map_more (places uses) d list more e (m ∙ ap (λ x. list ++ x ∷ []) o)

pub spans_more : (J : Use → Use → Bool) (uses : List Use) (j : ℕ) (next : Span) (spans more : List Span) → next ≡ span_of J uses j → spans ≡ map (span_of J uses) (range_with_len 0 j) → more ≡ spans ++ next ∷ [] → more ≡ map (span_of J uses) (range_with_len 0 (j + 1))
spans_more J uses j next spans more n e m = range_map_more (span_of J uses) j spans more e (m ∙ ap (λ x. spans ++ x ∷ []) n)

pub spans_all : (J : Use → Use → Bool) (uses : List Use) (j : ℕ) (spans : List Span) → j ≤ length uses → length uses ≤ j → spans ≡ map (span_of J uses) (range_with_len 0 j) → spans ≡ spans_of J uses
spans_all J uses j spans le ge e = e ∙ (let end : j ≡ length uses = omega (arith, le, ge) in ap (λ n. map (span_of J uses) (range_with_len 0 n)) end)
