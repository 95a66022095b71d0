-- For each use of a unit the group before its own, as a span of uses that stand by unit and then by command.
use Rattle.std.specs.Prelude.{ℕ, zero, suc, List, ◌≤◌, ◌==◌, ◌&&◌, ◌||◌, nat_lt, map, length, slice_index_or, Bool, if◌then◌else◌}
use Rattle.std.specs.List.{All, list_any, range_with_len, slice_range}
use Rattle.compile_queues.specs.declared.spans.Span.{Span}
use Rattle.base.specs.declared.shape.Family.{Family}
use Rattle.vk.specs.declared.sharing.Sharing.{Sharing}
use Rattle.compile_groups.specs.Groups.{joins}
use Rattle.compile_groups.specs.Uses.{no_use}
use Rattle.compile_groups.specs.declared.unit_use.Use.{Use}

abbrev pub use_at : List Use → ℕ → Use
use_at uses j = slice_index_or uses j no_use

-- the use, where its command is on one of these queues
abbrev pub moved : List ℕ → Use → Use
moved queues u = record u { queue = slice_index_or queues u.command 0 }

-- where commands are on these queues, the second use goes into the group of the first, right before it
abbrev pub joined : List Family → List Sharing → List ℕ → Use → Use → Bool
joined families sharings queues u v = u.unit == v.unit && joins families sharings (moved queues u) (moved queues v)

-- SPANS

-- that of use number j, where the use before it has this one: the group before goes on to be that, or ends here
abbrev pub next_span : (Use → Use → Bool) → List Use → ℕ → Span → Span
next_span joined uses zero span = span
next_span joined uses (suc j) span = if joined (use_at uses j) (use_at uses (suc j)) then span else record { from = span.to; to = suc j }

abbrev pub no_span : Span
no_span = record { from = 0; to = 0 }

abbrev pub span_of : (Use → Use → Bool) → List Use → ℕ → Span
span_of joined uses zero = no_span
span_of joined uses (suc j) = next_span joined uses (suc j) (span_of joined uses j)

-- that of the use before number j
abbrev pub span_before : (Use → Use → Bool) → List Use → ℕ → Span
span_before joined uses zero = no_span
span_before joined uses (suc j) = span_of joined uses j

abbrev pub spans_of : (Use → Use → Bool) → List Use → List Span
spans_of joined uses = map (span_of joined uses) (range_with_len 0 (length uses))

-- they end where there are uses
abbrev pub AreWithin : List Use → List Span → Type 0
AreWithin uses spans = All (λ span. (span.from ≤ span.to) × (span.to ≤ length uses)) spans

-- NEEDS

abbrev pub span_at : List Span → ℕ → Span
span_at spans j = slice_index_or spans j no_span

-- the use is of the unit, by command c
abbrev pub is_by : ℕ → ℕ → Use → Bool
is_by unit c u = u.unit == unit && u.command == c

-- command c uses the unit of use number j in the group before
abbrev pub precedes : List Use → List Span → ℕ → ℕ → Bool
precedes uses spans c j = list_any (is_by (use_at uses j).unit c) (slice_range uses (span_at spans j).from (span_at spans j).to)

-- command d needs command c by use number j
abbrev pub needs_at : List Use → List Span → ℕ → ℕ → ℕ → Bool
needs_at uses spans c d j = (use_at uses j).command == d && precedes uses spans c j

-- command d needs command c, or comes after it on its queue
abbrev pub steps : List ℕ → List Use → List Span → ℕ → ℕ → Bool
steps queues uses spans c d = (nat_lt c d && (nat_lt d (length queues) && slice_index_or queues c 0 == slice_index_or queues d 0)) || list_any (needs_at uses spans c d) (range_with_len 0 (length uses))
