-- Lists, entry by entry.
use Rattle.std.proofs.Common.{◌≡◌, ◌<◌, ◌+◌, ◌++◌, ℕ, suc, List, length, get_or, drop, sym, ap, ◌∙◌, add-one, append_assoc}
use Rattle.std.proofs.lemmas.List.{drop_more}
use Rattle.report_json.specs.Json.{comma, entries}

-- after entry k, of which the comma was added before
pub one_more : {X : Type 0} (entry : ℕ → X → List ℕ) (xs : List X) (k : ℕ) (d : X) (text begun new whole : List ℕ) → k < length xs → begun ≡ text ++ comma k → new ≡ begun ++ entry k (get_or xs k d) → text ++ entries entry k (drop k xs) ≡ whole → new ++ entries entry (k + 1) (drop (k + 1) xs) ≡ whole
one_more entry xs k d text begun new whole lt started is before =
    let here : List ℕ = entry k (get_or xs k d) in
    let rest : List ℕ = entries entry (k + 1) (drop (k + 1) xs) in
    let next : entries entry (suc k) (drop (k + 1) xs) ≡ rest = ap (λ m. entries entry m (drop (k + 1) xs)) (sym (add-one k)) in
    let all : entries entry k (drop k xs) ≡ comma k ++ (here ++ rest) = ap (entries entry k) (drop_more xs k d lt) ∙ ap (λ l. comma k ++ (here ++ l)) next in
    ap (λ t. t ++ rest) is ∙ (append_assoc begun here rest ∙ (ap (λ t. t ++ (here ++ rest)) started ∙ (append_assoc text (comma k) (here ++ rest) ∙ (sym (ap (λ l. text ++ l) all) ∙ before))))
