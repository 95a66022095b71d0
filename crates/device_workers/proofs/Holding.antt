-- Holds one after another, of a holder that tells something of itself.
use Rattle.std.proofs.Common.{Option, Some, None}
use Rattle.device_workers.specs.Holds.{Both}
use Rattle.device_workers.specs.Parts.{IfTold}

pub both : {X : Type 0} → (told : Option X) (P : X → X → Type 0) → ((d : X) → P d d) → Both told told P
both None P same = tt
both (Some d) P same = same d

-- the same where something is known of what it tells
pub both_if : {X : Type 0} → (told : Option X) (Q : X → Type 0) (P : X → X → Type 0) → ((d : X) → Q d → P d d) → IfTold told Q → Both told told P
both_if None Q P same known = tt
both_if (Some d) Q P same known = same d known

pub both_so : {X : Type 0} → (a b : Option X) (P Q : X → X → Type 0) → ((d e : X) → P d e → Q d e) → Both a b P → Both a b Q
both_so None None P Q so is = tt
both_so None (Some e) P Q so is = absurd is
both_so (Some d) None P Q so is = absurd is
both_so (Some d) (Some e) P Q so is = so d e is

-- what was so far, and then a hold
pub both_then : {X : Type 0} → (a b c : Option X) (P Q R : X → X → Type 0) → ((d e f : X) → P d e → Q e f → R d f) → Both a b P → Both b c Q → Both a c R
both_then None None None P Q R so before hold = tt
both_then None None (Some f) P Q R so before hold = absurd hold
both_then None (Some e) c P Q R so before hold = absurd before
both_then (Some d) None c P Q R so before hold = absurd before
both_then (Some d) (Some e) None P Q R so before hold = absurd hold
both_then (Some d) (Some e) (Some f) P Q R so before hold = so d e f before hold

-- what is known of the second
pub second_if : {X : Type 0} → (a b : Option X) (P : X → X → Type 0) (Q : X → Type 0) → ((d e : X) → P d e → Q e) → Both a b P → IfTold b Q
second_if None None P Q so is = tt
second_if None (Some e) P Q so is = absurd is
second_if (Some d) None P Q so is = tt
second_if (Some d) (Some e) P Q so is = so d e is
