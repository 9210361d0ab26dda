-- Folders at each time of several calls.
use Rattle.std.proofs.Common.{◌≡◌, ◌⊎◌, inl, inr, ℕ, List, [], ◌∷◌, ◌++◌, Option, Some, None, refl, sym, ap, ◌∙◌, append_assoc}
use Rattle.std.specs.List.{AllByRecursion}
use Rattle.mq_file.specs.Named.{Content, Files, Leads, MayBe, OthersStay, Outcomes, Related, Throughout, Wrote, Writes, newest, present}

-- ---- contents

pub newest_last : (c d : Content) (rest : List Content) → newest c (rest ++ d ∷ []) ≡ d
newest_last c d [] = refl
newest_last c d (e ∷ rest) = newest_last e d rest

-- the last content is the present one
pub present_last : (rest : List Content) (d : Content) → present (rest ++ d ∷ []) ≡ d
present_last [] d = refl
present_last (c ∷ rest) d = newest_last c d rest

-- a crash may leave the present content
pub may_be_present : (all : List Content) → MayBe (present all) all
may_be_present [] = refl
may_be_present (c ∷ []) = refl
may_be_present (c ∷ d ∷ rest) = inr (may_be_present (d ∷ rest))

-- a crash leaves an earlier content or the last one
pub may_be_last : (left : Content) (all : List Content) (last : Content) → MayBe left (all ++ last ∷ []) → MayBe left all ⊎ (left ≡ last)
may_be_last left [] last is = inr is
may_be_last left (c ∷ []) last (inl is) = inl is
may_be_last left (c ∷ []) last (inr is) = inr is
may_be_last left (c ∷ d ∷ rest) last (inl is) = inl (inl is)
may_be_last left (c ∷ d ∷ rest) last (inr among) =
    elim (may_be_last left (d ∷ rest) last among) [ inl is ↦ inl (inr is) | inr is ↦ inr is ]

-- ---- times

all_both : (P : Outcomes → Type 0) (xs ys : List Outcomes) → AllByRecursion P xs → AllByRecursion P ys → AllByRecursion P (xs ++ ys)
all_both P [] ys first second = second
all_both P (x ∷ xs) ys first second = (first.0, all_both P xs ys first.1 second)

all_through : (P Q : Outcomes → Type 0) (xs : List Outcomes) → ((o : Outcomes) → P o → Q o) → AllByRecursion P xs → AllByRecursion Q xs
all_through P Q [] f all = tt
all_through P Q (x ∷ xs) f all = (f x all.0, all_through P Q xs f all.1)

module _ (P : Outcomes → Outcomes → Type 0) (same : (o : Outcomes) → P o o) where
  -- one call
  pub by_call : (So : Outcomes → Outcomes → Type 0) → ((o n : Outcomes) → So o n → P o n) → (a b : Option Files) → Related So a b → Throughout P a b
  by_call So f None b called = called
  by_call So f (Some a) None called = absurd called
  by_call So f (Some a) (Some b) called =
      (same a.now, f a.now b.now called.0, (a.now ∷ [], called.1, (same a.now, tt)))

  -- one write
  pub by_write : (name bytes : List ℕ) → ((o n : Outcomes) → OthersStay name o n → P o n) → (a b : Option Files) → Writes name bytes a b → Throughout P a b
  by_write name bytes f None b wrote = wrote
  by_write name bytes f (Some a) None wrote = absurd wrote
  by_write name bytes f (Some a) (Some b) wrote =
      let during : Outcomes = wrote.1.0 in
      (same a.now, f a.now b.now wrote.0.0, (during ∷ a.now ∷ [], wrote.1.2, (f a.now during wrote.1.1, (same a.now, tt))))

-- a weaker fact
pub weaker : (P Q : Outcomes → Outcomes → Type 0) → ((o n : Outcomes) → P o n → Q o n) → (a b : Option Files) → Throughout P a b → Throughout Q a b
weaker P Q f None b all = all
weaker P Q f (Some a) None all = absurd all
weaker P Q f (Some a) (Some b) all =
    (f a.now a.now all.0, f a.now b.now all.1, (all.2.0, all.2.1, all_through (P a.now) (Q a.now) all.2.0 (f a.now) all.2.2))

-- calls, and then more calls
pub after : (P S Q : Outcomes → Outcomes → Type 0) → ((o m n : Outcomes) → S o m → Q m n → P o n)
    → (a b c : Option Files) → Throughout P a b → Leads S a b → Throughout Q b c → Throughout P a c
after P S Q f None None c first led second = second
after P S Q f None (Some b) c first led second = absurd cc
after P S Q f (Some a) None c first led second = absurd led
after P S Q f (Some a) (Some b) None first led second = absurd second
after P S Q f (Some a) (Some b) (Some c) first led second =
    let early : List Outcomes = first.2.0 in
    let late : List Outcomes = second.2.0 in
    let all : AllByRecursion (P a.now) late = all_through (Q b.now) (P a.now) late (λ o q. f a.now b.now o led q) second.2.2 in (
      first.0,
      f a.now b.now c.now led second.1,
      (
        late ++ early,
        second.2.1 ∙ ap (λ (l : List Outcomes). late ++ l) first.2.1 ∙ sym (append_assoc late early a.before),
        all_both (P a.now) late early all first.2.2,
      ),
    )

-- ---- the end of the calls

pub call_leads : (So : Outcomes → Outcomes → Type 0) (a b : Option Files) → Related So a b → Leads So a b
call_leads So None b called = called
call_leads So (Some a) None called = absurd called
call_leads So (Some a) (Some b) called = called.0

pub write_leads : (name bytes : List ℕ) (a b : Option Files) → Writes name bytes a b → Leads (Wrote name bytes) a b
write_leads name bytes None b wrote = wrote
write_leads name bytes (Some a) None wrote = absurd wrote
write_leads name bytes (Some a) (Some b) wrote = wrote.0

pub end_of : (P : Outcomes → Outcomes → Type 0) (a b : Option Files) → Throughout P a b → Leads P a b
end_of P None b all = all
end_of P (Some a) None all = absurd all
end_of P (Some a) (Some b) all = all.1

pub leads_both : (S T U : Outcomes → Outcomes → Type 0) → ((o m n : Outcomes) → S o m → T m n → U o n)
    → (a b c : Option Files) → Leads S a b → Leads T b c → Leads U a c
leads_both S T U f None None c first second = second
leads_both S T U f None (Some b) c first second = absurd cc
leads_both S T U f (Some a) None c first second = absurd first
leads_both S T U f (Some a) (Some b) None first second = absurd second
leads_both S T U f (Some a) (Some b) (Some c) first second = f a.now b.now c.now first second

pub both_lead : (S T : Outcomes → Outcomes → Type 0) (a b : Option Files) → Leads S a b → Leads T a b → Leads (λ o n. S o n × T o n) a b
both_lead S T None b first second = first
both_lead S T (Some a) None first second = first
both_lead S T (Some a) (Some b) first second = (first, second)
