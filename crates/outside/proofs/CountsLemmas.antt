-- Laws of counts that rise and of calls that only read or only write.
use Rattle.std.proofs.Common.{arith}
use Rattle.outside.specs.Counts.{Counts, NoneFell, OnlyReads, OnlyWrites}

-- no count falls if none changes
pub none_fell_same : (a : Counts) → NoneFell a a
none_fell_same a = grind arith

-- no count falls over two calls if none falls over either
pub none_fell_then : {a b c : Counts} → NoneFell a b → NoneFell b c → NoneFell a c
none_fell_then p q = grind arith

-- if no count changes, nothing but reads happened
pub only_reads_same : (a : Counts) → OnlyReads a a
only_reads_same a = grind arith

-- two calls that only read are one that only reads
pub only_reads_then : {a b c : Counts} → OnlyReads a b → OnlyReads b c → OnlyReads a c
only_reads_then p q = grind arith

-- if there were only reads, no count fell
pub none_fell_by_reads : {a b : Counts} → OnlyReads a b → NoneFell a b
none_fell_by_reads p = grind arith

-- if there were only writes, no count fell
pub none_fell_by_writes : {a b : Counts} → OnlyWrites a b → NoneFell a b
none_fell_by_writes p = grind arith
