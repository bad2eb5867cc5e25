pub mod MemberLemmas
pub mod SortLemmas
pub mod GoingLemmas
pub mod KeyLemmas
pub mod JarLemmas
pub mod SeenLemmas
pub mod FaceLemmas
pub mod SparedLemmas
pub mod PlanLemmas
pub mod EnoughLemmas
pub mod LeftLemmas
pub mod LawLemmas
pub mod CookieLemmas
pub mod TieLemmas
pub mod AgreeLemmas
pub mod NumberedLemmas
mod StandardFacts
