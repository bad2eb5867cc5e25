-- What contracts see of the adapters over readers and writers of std. This jar's own rule:
-- docs/DEFINITIONS.md.
use Rattle.std.specs.Prelude.{ℕ, Bool, List, refl}
use Rattle.std.specs.Coded.{Coded, code_by, coded×, coded_ℕ, coded_bool, coded_list}

-- the reader of a source, all bytes that its reads gave, whether the last read that succeeded found
-- the end, and how many failed
pub record AdaptedReader (T : Type 0) : Type 0 where
  pub inner : T
  pub given : List ℕ
  pub ended : Bool
  pub faults : ℕ

-- it is stored as its fields
abbrev pub reader_code : {T : Type 0} → Coded T → Coded (AdaptedReader T)
reader_code {T} code =
    code_by (T × (List ℕ × (Bool × ℕ)))
    (coded× code (coded× (coded_list coded_ℕ) (coded× coded_bool coded_ℕ)))
    (λ a. (a.inner, (a.given, (a.ended, a.faults))))
    (λ p. record { inner = p.0; given = p.1.0; ended = p.1.1.0; faults = p.1.1.1 }) (λ _. refl)

-- the writer of a sink, all bytes that its writes took, and how many were faults
pub record AdaptedWriter (T : Type 0) : Type 0 where
  pub inner : T
  pub taken : List ℕ
  pub faults : ℕ

-- it is stored as its fields
abbrev pub writer_code : {T : Type 0} → Coded T → Coded (AdaptedWriter T)
writer_code {T} code =
    code_by (T × (List ℕ × ℕ)) (coded× code (coded× (coded_list coded_ℕ) coded_ℕ))
    (λ a. (a.inner, (a.taken, a.faults)))
    (λ p. record { inner = p.0; taken = p.1.0; faults = p.1.1 }) (λ _. refl)
