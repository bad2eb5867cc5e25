-- The plan of a task. This jar's own rule: docs/DEFINITIONS.md.
use Rattle.std.specs.Prelude.{ℕ, List}
use Rattle.jar_types.specs.Plans.{key_plan, jar_plan}
use Rattle.eviction.specs.declared.face.Face.{Face}
use Rattle.eviction.specs.Faces.{face_looks}
use Rattle.eviction_bench.specs.declared.task.Task.{Task}
use Rattle.eviction_bench.specs.declared.task.Task.TheVariants.{Key, Jar}

-- the faces that go by the plan of a task at a moment
abbrev pub plan_of : Task → ℕ → List Face → List Face
plan_of Key now faces = key_plan face_looks faces
plan_of Jar now faces = jar_plan face_looks now faces
