-- What follows from what a fault says, by its cause.
use Rattle.std.proofs.Common.{ℕ}
use Rattle.commands.specs.AfterCall.{by_why, ByWhy, Missing, NoMemory, Rejected, Shorter, Unread}
use Rattle.commands.specs.AfterCall.{Unsent, Unwritten, Why}

-- for each cause, this follows from that
pub record EachWhy (A B : ByWhy (Type 0)) : Type 0 where
  pub rejected : A.rejected → B.rejected
  pub missing : A.missing → B.missing
  pub unread : A.unread → B.unread
  pub shorter : A.shorter → B.shorter
  pub unwritten : (k : ℕ) → A.unwritten k → B.unwritten k
  pub unsent : A.unsent → B.unsent
  pub no_memory : A.no_memory → B.no_memory

-- what follows for each cause follows for the cause of a fault
pub each_why : {A B : ByWhy (Type 0)} (why : Why) → by_why A why → EachWhy A B → by_why B why
each_why Rejected h each = each.rejected h
each_why Missing h each = each.missing h
each_why Unread h each = each.unread h
each_why Shorter h each = each.shorter h
each_why (Unwritten k) h each = each.unwritten k h
each_why Unsent h each = each.unsent h
each_why NoMemory h each = each.no_memory h

-- if only what is said about a refusal differs, only that has to follow
pub each_refusal : {A : ByWhy (Type 0)} {R : Type 0} → (A.rejected → R)
    → EachWhy A (record A { rejected = R })
each_refusal follows = record {
  rejected = follows;
  missing = λ m. m;
  unread = λ u. u;
  shorter = λ l. l;
  unwritten = λ k w. w;
  unsent = λ w. w;
  no_memory = λ n. n;
}

-- whatever the cause is, this follows
abbrev pub always : Type 0 → ByWhy (Type 0)
always P = record {
  rejected = P;
  missing = P;
  unread = P;
  shorter = P;
  unwritten = λ k. P;
  unsent = P;
  no_memory =
      P;
}

-- what follows for each cause follows for any cause
pub of_why : {A : ByWhy (Type 0)} {P : Type 0} (why : Why) → by_why A why → EachWhy A (always P) → P
of_why why h each = by_any why (each_why why h each)
  where
    by_any : {P : Type 0} (why : Why) → by_why (always P) why → P
    by_any (Unwritten k) h = h
    by_any _ h = h

-- for each cause, the second follows from the first
abbrev pub and_by : ByWhy (Type 0) → ByWhy (Type 0) → ByWhy (Type 0)
and_by A B = record {
  rejected = A.rejected → B.rejected;
  missing = A.missing → B.missing;
  unread = A.unread → B.unread;
  shorter = A.shorter → B.shorter;
  unwritten = λ k. A.unwritten k
      → B.unwritten k;
  unsent = A.unsent → B.unsent;
  no_memory = A.no_memory → B.no_memory;
}

-- what follows for each cause from two facts follows from both for the cause of a fault
pub each_why_of : {A B C : ByWhy (Type 0)} (why : Why) → by_why A why → by_why B why
    → EachWhy A (and_by B C) → by_why C why
each_why_of Rejected h i each = each.rejected h i
each_why_of Missing h i each = each.missing h i
each_why_of Unread h i each = each.unread h i
each_why_of Shorter h i each = each.shorter h i
each_why_of (Unwritten k) h i each = each.unwritten k h i
each_why_of Unsent h i each = each.unsent h i
each_why_of NoMemory h i each = each.no_memory h i
